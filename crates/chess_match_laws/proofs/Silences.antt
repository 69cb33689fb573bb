-- By rules without a limit to waiting there are no silences (`none_silent`). A silence ends the match exactly if its
-- side is beyond its limit, phase by phase (beyond); within it a silence changes nothing, if the time for a reply runs
-- already (`within`). For other laws: it ends the match, or changes only since when a reply is awaited (by_silence).
use Rattle.std.proofs.Common.{◌≡◌, ℕ, ◌-◌, ◌<◌, Bool, true, false, List, [], ◌∷◌, ◌++◌, length, refl, ap, sym, ◌∙◌, Option, None, Some, arith, if◌then◌else◌, is_some, nat_lt, slice_get, unwrap_or}
use Rattle.std.specs.{List.list_any, Option.option_map_or}
use Rattle.std.proofs.lemmas.Bool.{and_parts}
use Rattle.chess_base.specs.{declared.man.Colour.Colour, declared.man.Colour.TheVariants.White, Options.list_if, Men.same_colour}
use Rattle.chess_match.specs.Acts.{Act, Block, IsMatch, IsMatchFrom, Sends, SendFails, Happens, awaits_line, blocks_from, is_limited, is_over}
use Rattle.chess_match.specs.Effects.{Effect, Match, Phase, Handshake, Setup, Opening, BeforeMove, AfterMove, Over, beginning, clock, effect, ends, flag_row, sends_nothing, silence_row}
use Rattle.chess_match.specs.Events.{Line, Opened, Silent, OutputEnds, FailsToRead, FailsToWrite}
use Rattle.chess_match.specs.{Rules.Rules, declared.patience.Patience.Patience, declared.reason.Reason.Reason, laws.Laws.match_after}
use Rattle.chess_match_laws.specs.Streams.{looks}
use Rattle.chess_match_laws.specs.OfActs.{AreSilent, SilencesAreAskedFor, SilencesChangeNothing, SilencesEndMatches, endless, is_beyond, is_silent, only_sends}
use Rattle.chess_match.proofs.{shared.LineCases.MayStopSilent, shared.LineCases.silence_cases, shared.MatchCases.by_acts, shared.MatchCases.by_cases, shared.MatchCases.on_when_read}
use Rattle.chess_match_laws.proofs.Points.{Stays}

-- what follows of a match that ends by a silence (`end`), and of one that goes on (`on`), follows of any silence
pub by_silence : (r : Rules) (m n : Match) (S : Colour) (k : ℕ) (H : List Act) (P : Match → List Block → Type 0)
    {A : Type 0}
    → ((reason : Reason) → MayStopSilent r.patience m.phase reason → only_sends H ≡ true
    → n ≡ (ends r reason m).after → P (ends r reason m).after (blocks_from White (ends r reason m).to) → A)
    → ((since : Option ℕ) → P (record m { since = since }) [] → A)
    → Stays (effect r m (Silent S k)).after H n
    → P (effect r m (Silent S k)).after (blocks_from White (effect r m (Silent S k)).to) → A
by_silence r m n S k H P {A} end on = silence_cases r S k m
    (λ e. Stays e.after H n → P e.after (blocks_from White e.to) → A) (record {
      stops = λ reason w stays p. end reason w (stays refl).1 (stays refl).0 p;
      goes_on = λ since stays p. on since p;
    })

-- ---- where the rules ask for them

-- rules without a limit to waiting limit no phase
never_limited : {A : Type 0} (patience : Patience) (p : Phase) → patience ≡ endless → is_limited patience p ≡ true → A
never_limited patience p e limited = at p (sym (ap (λ (x : Patience). is_limited x p) e) ∙ limited)
  where
    at : {A : Type 0} (p : Phase) → is_limited endless p ≡ true → A
    at (Handshake c) h = absurd cc
    at (Setup c) h = absurd cc
    at (Opening c) h = absurd cc
    at (BeforeMove c opened) h = absurd cc
    at (AfterMove c) h = absurd cc
    at (Over reason) h = absurd cc

-- one more look that found something, of this side (`own`) or of the other
found_more : (own : Bool) (found : List Bool)
    → ((n : ℕ) → n < length found → slice_get found n ≡ Some false) → (n : ℕ)
    → n < length (list_if own (false ∷ []) ++ found) → slice_get (list_if own (false ∷ []) ++ found) n ≡ Some false
found_more own found h1 n h2 = grind arith

-- acts without a silence have no look that found none
found_each : (H : List Act) → list_any is_silent H ≡ false → AreSilent (λ S n. false) H
found_each [] none = λ S n h. absurd (omega (arith, h))
found_each (Sends b ∷ H) none = found_each H none
found_each (SendFails b ∷ H) none = found_each H none
found_each (Happens (Line c t k) ∷ H) none = λ S. found_more (same_colour c S) (looks S H) (found_each H none S)
found_each (Happens (OutputEnds c) ∷ H) none = λ S. found_more (same_colour c S) (looks S H) (found_each H none S)
found_each (Happens (FailsToRead c) ∷ H) none = λ S. found_more (same_colour c S) (looks S H) (found_each H none S)
found_each (Happens (Opened c k) ∷ H) none = found_each H none
found_each (Happens (FailsToWrite c) ∷ H) none = found_each H none
found_each (Happens (Silent c k) ∷ H) none = absurd cc

-- a match by rules without a limit has no silence
none_silent : (r : Rules) (H : List Act) (final : Match) → IsMatch r H final → r.patience ≡ endless
    → list_any is_silent H ≡ false
none_silent r H final g e = by_cases r final (λ m due H. list_any is_silent H ≡ false) (record {
  sends = λ m end b due H p. p;
  fails = λ m end b due H on p. p;
  fails_late = λ m end b due H over p. p;
  reads = λ m end S t n H aw p. p;
  opens = λ m end S n H opening p. p;
  silent = λ m end S n H aw limited p. never_limited r.patience m.phase e limited;
  ends = λ m end S H aw p. p;
  read_fails = λ m end S H aw p. p;
}) (λ over. refl) beginning.after (blocks_from White beginning.to) H g

pub silences_are_asked_for : SilencesAreAskedFor
silences_are_asked_for r H final g e = let none = none_silent r H final g e in (none, found_each H none)

-- ---- whether they end the match

-- after an effect by a test the match is over if and only if the test holds, if it is over only by the first effect
over_by : (b : Bool) (x y : Effect) → is_over x.after.phase ≡ true → is_over y.after.phase ≡ false
    → is_over (if b then x else y).after.phase ≡ b
over_by true x y over on = over
over_by false x y over on = on

-- a silence ends the match if and only if the side is beyond its limit
pub beyond : (r : Rules) (m : Match) (S : Colour) (moment : ℕ) (p : Phase) → m.phase ≡ p → awaits_line p S ≡ true
    → is_over (silence_row r p S moment m).after.phase ≡ is_beyond r m p S moment
beyond r m S moment p e aw = at p aw (ap is_over e ∙ on_when_read p S aw)
  where
    test : Bool
    test = option_map_or (λ limit. nat_lt limit (moment - unwrap_or m.since moment)) r.patience.reply false

    at : (p : Phase) → awaits_line p S ≡ true → is_over m.phase ≡ false
        → is_over (silence_row r p S moment m).after.phase ≡ is_beyond r m p S moment
    at (BeforeMove c opened) aw h = over_by (nat_lt (clock r m S) (moment - opened)) (flag_row r S m) (sends_nothing m)
        refl h
    at (Handshake c) aw h = over_by test _ _ refl h
    at (Setup c) aw h = over_by test _ _ refl h
    at (AfterMove c) aw h = over_by test _ _ refl h
    at (Opening c) aw h = absurd cc
    at (Over reason) aw h = absurd cc

pub silences_end_matches : SilencesEndMatches
silences_end_matches r before after S moment final g = by_acts r
    (λ m due H n. is_over (effect r n (Silent S moment)).after.phase ≡ is_beyond r n n.phase S moment) (record {
      sends = λ m n b due H p. p;
      fails = λ m n b due H on p. p;
      fails_late = λ m n b due H over p. p;
      reads = λ m n c t k H aw p. p;
      opens = λ m n c k H opening p. p;
      silent = λ m n c k H aw limited p. p;
      ends = λ m n c H aw p. p;
      read_fails = λ m n c H aw p. p;
    }) (Happens (Silent S moment) ∷ after) final at beginning.after (blocks_from White beginning.to) before g
  where
    at : (m : Match) (due : List Block) → IsMatchFrom r m due (Happens (Silent S moment) ∷ after) final
        → is_over (effect r m (Silent S moment)).after.phase ≡ is_beyond r m m.phase S moment
    at m [] (may, g) = beyond r m S moment m.phase refl
        (and_parts (awaits_line m.phase S) (is_limited r.patience m.phase) may).0
    at m (b ∷ due) g = absurd g

-- ---- whether they change a match that goes on

-- an effect by a test that fails is the second one
untouched : (b : Bool) (x y : Effect) (m : Match) → b ≡ false → y.after ≡ m → ((X : Colour) → y.to X ≡ [])
    → ((if b then x else y).after ≡ m) × ((X : Colour) → (if b then x else y).to X ≡ [])
untouched true x y m h same none = absurd cc
untouched false x y m h same none = (same, none)

-- a silence within the limit changes nothing, if the time for a reply ran already
within : (r : Rules) (m : Match) (S : Colour) (moment : ℕ) (p : Phase) → is_beyond r m p S moment ≡ false
    → is_some m.since ≡ true → ((silence_row r p S moment m).after ≡ m)
    × ((X : Colour) → (silence_row r p S moment m).to X ≡ [])
within r m S moment p h some = at p h
  where
    still : (since : Option ℕ) → is_some since ≡ true → Some (unwrap_or since moment) ≡ since
    still None h = absurd cc
    still (Some n) h = refl

    same : record m { since = Some (unwrap_or m.since moment) } ≡ m
    same = ap (λ (x : Option ℕ). record m { since = x }) (still m.since some)

    at : (p : Phase) → is_beyond r m p S moment ≡ false → ((silence_row r p S moment m).after ≡ m)
        × ((X : Colour) → (silence_row r p S moment m).to X ≡ [])
    at (BeforeMove c opened) h = untouched (nat_lt (clock r m S) (moment - opened)) (flag_row r S m) (sends_nothing m) m
        h refl (λ X. refl)
    at (Handshake c) h = untouched _ _ _ m h same (λ X. refl)
    at (Setup c) h = untouched _ _ _ m h same (λ X. refl)
    at (AfterMove c) h = untouched _ _ _ m h same (λ X. refl)
    at (Opening c) h = (refl, λ X. refl)
    at (Over reason) h = (refl, λ X. refl)

pub silences_change_nothing : SilencesChangeNothing
silences_change_nothing r before after S moment final g h some =
    let m : Match = match_after r beginning.after before in within r m S moment m.phase h some
