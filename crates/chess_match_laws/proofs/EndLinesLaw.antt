-- Two matches by the same rules that read the same from engines and clock, and that no failed write ended, have the
-- same events and the same final state, whichever end lines could be sent. With each failed block sent after all
-- (`mended`) both are matches of the same engines, with the same events (`mends`), so OneLaw.only_one_match applies.
use Rattle.std.proofs.Common.{◌≡◌, ℕ, Bool, true, false, ◌||◌, List, [], ◌∷◌, ◌++◌, refl, ap, sym, ◌∙◌, ◌<◌, subst, None, Some, Option, length, if◌then◌else◌, nat_lt, slice_get}
use Rattle.chess_base.specs.{declared.man.Colour.Colour, declared.man.Colour.TheVariants.White}
use Rattle.std.proofs.lemmas.Bool.{and_from}
use Rattle.chess_base.proofs.shared.Men.{same_colour-self}
use Rattle.chess_match.specs.Acts.{Act, Block, IsMatch, IsMatchFrom, Sends, SendFails, Happens, awaits_line, blocks_from, is_limited, is_over}
use Rattle.chess_match.specs.ByDevice.{is_end_of, is_failed_read_of, line_read, look, moment_shown}
use Rattle.chess_match.specs.Effects.{Match, Phase, beginning, effect}
use Rattle.chess_match.specs.Events.{Event, FailsToRead, FailsToWrite, Line, Opened, OutputEnds, Silent}
use Rattle.chess_match.specs.{Lines.SentLine, Rules.Rules}
use Rattle.chess_match_laws.specs.Streams.{Streams, looks}
use Rattle.chess_match.specs.laws.Laws.{broken_blocks, has_ended, has_failed_read, is_broken, lines_read, moments_shown}
use Rattle.chess_match_laws.specs.OfActs.{AreOf, OneMatchButForEndLines, ReadFrom, ended_by_write_to, events_of}
use Rattle.chess_match.proofs.shared.MatchCases.{both_not, by_cases, on_when_read}
use Rattle.chess_match_laws.proofs.OneLaw.{only_one_match}

-- these acts, but each block was sent
abbrev mended : List Act → List Act
mended [] = []
mended (Sends b ∷ H) = Sends b ∷ mended H
mended (SendFails b ∷ H) = Sends b ∷ mended H
mended (Happens e ∷ H) = Happens e ∷ mended H

-- mended acts read the same lines; and by the next lemmas the same ends, failures, moments and looks
mended_lines : (S : Colour) (H : List Act) → lines_read S (mended H) ≡ lines_read S H
mended_lines S [] = refl
mended_lines S (Sends b ∷ H) = mended_lines S H
mended_lines S (SendFails b ∷ H) = mended_lines S H
mended_lines S (Happens e ∷ H) = ap (λ (l : List (Option (List ℕ))). line_read S (Happens e) ++ l) (mended_lines S H)

mended_end : (S : Colour) (H : List Act) → has_ended S (mended H) ≡ has_ended S H
mended_end S [] = refl
mended_end S (Sends b ∷ H) = mended_end S H
mended_end S (SendFails b ∷ H) = mended_end S H
mended_end S (Happens e ∷ H) = ap (λ (x : Bool). is_end_of S (Happens e) || x) (mended_end S H)

mended_failure : (S : Colour) (H : List Act) → has_failed_read S (mended H) ≡ has_failed_read S H
mended_failure S [] = refl
mended_failure S (Sends b ∷ H) = mended_failure S H
mended_failure S (SendFails b ∷ H) = mended_failure S H
mended_failure S (Happens e ∷ H) = ap (λ (x : Bool). is_failed_read_of S (Happens e) || x) (mended_failure S H)

mended_moments : (H : List Act) → moments_shown (mended H) ≡ moments_shown H
mended_moments [] = refl
mended_moments (Sends b ∷ H) = mended_moments H
mended_moments (SendFails b ∷ H) = mended_moments H
mended_moments (Happens e ∷ H) = ap (λ (l : List ℕ). moment_shown (Happens e) ++ l) (mended_moments H)

mended_looks : (S : Colour) (H : List Act) → looks S (mended H) ≡ looks S H
mended_looks S [] = refl
mended_looks S (Sends b ∷ H) = mended_looks S H
mended_looks S (SendFails b ∷ H) = mended_looks S H
mended_looks S (Happens e ∷ H) = ap (λ (l : List Bool). look S (Happens e) ++ l) (mended_looks S H)

-- no block of mended acts fails
none_broken : (S : Colour) (H : List Act) → broken_blocks S (mended H) ≡ []
none_broken S [] = refl
none_broken S (Sends b ∷ H) = none_broken S H
none_broken S (SendFails b ∷ H) = none_broken S H
none_broken S (Happens e ∷ H) = none_broken S H

unbroken : (S : Colour) (H : List Act) → is_broken (mended H) S ≡ false
unbroken S H = ap (λ (l : List (List SentLine)). nat_lt 0 (length l)) (none_broken S H)

-- these engines and this clock, but sending a block never fails
abbrev unfailing : Streams → Streams
unfailing s = record s { breaks = λ S. None }

-- mended acts come from engines to which sending never fails
of_mended : (s : Streams) (H : List Act) → ReadFrom s H → AreOf (unfailing s) (mended H)
of_mended s H o = record {
  reads = record {
    lines = λ S. subst (λ (l : List (Option (List ℕ))). (rest : List (Option (List ℕ))) × (s.lines S ≡ l ++ rest))
        (sym (mended_lines S H)) (o.lines S);
    ends = λ S h. let e = o.ends S (sym (mended_end S H) ∙ h) in (e.0 ∙ sym (mended_lines S H), e.1);
    failures = λ S h. let e = o.failures S (sym (mended_failure S H) ∙ h) in (e.0 ∙ sym (mended_lines S H), e.1);
    silences = λ S. subst (λ (l : List Bool). (n : ℕ) → n < length l → slice_get l n ≡ Some (s.silent S n))
        (sym (mended_looks S H)) (o.silences S);
    moments = subst (λ (l : List ℕ). (n : ℕ) → n < length l → slice_get l n ≡ Some (s.moments n))
        (sym (mended_moments H)) o.moments;
  };
  sent = λ S h. tt;
  broken = λ S h. both_not (is_broken (mended H) S) (unbroken S H) h;
}

-- if no write ended the match, the mended acts are a match, in which the same happens
module _ (r : Rules) (final : Match) (unended : (S : Colour) → ended_by_write_to S final.phase ≡ false) where
  abbrev Mends : Match → List Block → List Act → Type 0
  Mends m due H = (is_over m.phase ≡ true → m.phase ≡ final.phase) × IsMatchFrom r m due (mended H) final
      × (events_of r m (mended H) ≡ events_of r m H)

  -- a failed write would end the match, which it did not
  no_failure : {A : Type 0} (m : Match) (S : Colour) → (effect r m (FailsToWrite S)).after.phase ≡ final.phase → A
  no_failure m S e = both_not (ended_by_write_to S final.phase) (unended S)
      (ap (λ (p : Phase). ended_by_write_to S p) (sym e) ∙ same_colour-self S)

  -- a block that fails after the end is no event
  late : (m : Match) (b : Block) (H : List Act) → is_over m.phase ≡ true
      → events_of r m (mended H) ≡ events_of r m H → events_of r m (mended H) ≡ events_of r m (SendFails b ∷ H)
  late m b H o e = e ∙ sym (ap (λ (x : Bool). if x then events_of r m H
      else FailsToWrite b.to ∷ events_of r (effect r m (FailsToWrite b.to)).after H) o)

  -- a match that waits for a line is not over
  on : {A : Type 0} (m : Match) (S : Colour) → awaits_line m.phase S ≡ true → is_over m.phase ≡ true → A
  on m S aw o = both_not (is_over m.phase) (on_when_read m.phase S aw) o

  -- an event more in front
  happens : (m : Match) (e : Event) (H : List Act)
      → events_of r (effect r m e).after (mended H) ≡ events_of r (effect r m e).after H
      → events_of r m (Happens e ∷ mended H) ≡ events_of r m (Happens e ∷ H)
  happens m e H same = ap (λ (es : List Event). e ∷ es) same

  -- by each act in front of later ones `Mends` still holds, so it holds of a whole match
  mends : (H : List Act) → IsMatch r H final → Mends beginning.after (blocks_from White beginning.to) H
  mends H g = by_cases r final Mends (record {
    sends = λ m end b due H p. (p.0, (refl, p.1), p.2);
    fails = λ m end b due H on p. no_failure m b.to (p.0 refl);
    fails_late = λ m end b due H o p. (p.0, (refl, p.1), late m b H o p.2);
    reads = λ m end S t n H aw p. (on m S aw, (aw, p.1), happens m (Line S t n) H p.2);
    opens = λ m end S n H o p. (
      λ over. both_not (is_over m.phase) (ap is_over o) over,
      (o, p.1),
      happens m (Opened S n) H p.2,
    );
    silent = λ m end S n H aw limited p. (
      on m S aw,
      (and_from (awaits_line m.phase S) (is_limited r.patience m.phase) aw limited, p.1),
      happens m (Silent S n) H p.2,
    );
    ends = λ m end S H aw p. (on m S aw, (aw, p.1), happens m (OutputEnds S) H p.2);
    read_fails = λ m end S H aw p. (on m S aw, (aw, p.1), happens m (FailsToRead S) H p.2);
  }) (λ o. (λ x. refl, (o, refl), refl)) beginning.after (blocks_from White beginning.to) H g

pub one_match_but_for_end_lines : OneMatchButForEndLines
one_match_but_for_end_lines r s H K final final' h k o q w v =
    let x = mends r final w H h in
    let y = mends r final' v K k in
    let (same, end) = only_one_match r (unfailing s) (mended H) (mended K) final final' x.1 y.1 (of_mended s H o)
    (of_mended s K q) in
    (sym x.2 ∙ ap (λ (L : List Act). events_of r beginning.after L) same ∙ y.2, end)
