-- A game is fixed by what its engines say and its clock shows, if nothing fails at its engines' pipes: its acts are
-- then those that these streams give (are_of), each engine has been sent all its lines (sent_all), and what the clock
-- will show later is fixed too (clock_left).
use Rattle.std.proofs.Common.{◌≡◌, ◌≢◌, ◌∙◌, ◌+◌, ℕ, Bool, true, false, List, [], ◌∷◌, ◌++◌, length, Option, None, Some, refl, sym, ap, subst, append_assoc, append-nil, arith, IfSome, if◌then◌else◌, is_some, map, nat_eq, nat_lt, slice_get}
use Rattle.std.specs.Io.KnownBytes.{Appends, Consumes, IsAtEnd}
use Rattle.std.proofs.lemmas.List.{map-append}
use Rattle.chess_base.specs.declared.man.Colour.{Colour}
use Rattle.byte_devices.specs.{Devices.saturating_increment, Transfers.FromInput, Transfers.ToOutput}
use Rattle.byte_devices.proofs.shared.Transfers.{all_for}
use Rattle.text_lines.specs.Lines.{LineSeen, line_of, lines_from}
use Rattle.text_lines.proofs.shared.LineSteps.{byte_step, none_from, ten_step}
use Rattle.chess_match.specs.{Acts.Act, Effects.Match, Lines.SentLine, Lines.bytes_of, Played.Passed, Played.WasSent, Played.World, Rules.Rules, Run.engine_lines, Run.text_read, declared.run.TheConstants.ENGINE_LINE_LEN}
use Rattle.chess_match_laws.specs.{Streams.Streams, OfActs.AreOf, OfActs.AreSilent}
use Rattle.chess_match.specs.laws.Laws.{has_ended, is_broken, lines_read, moments_shown, broken_blocks, lines_sent}

-- ---- the lines of a text's beginning begin the lines of the text

-- the lines `all` begin with the lines `some`
abbrev Begun : List LineSeen → List LineSeen → Type 0
Begun all some = (rest : List LineSeen) × (all ≡ some ++ rest)

-- the lines of a beginning of a stream are the first lines of the whole
lines_begin : (n : ℕ) (part a b : List ℕ) → Begun (lines_from n false part (a ++ b)) (lines_from n false part a)
lines_begin n part [] b = (lines_from n false part b, rw (none_from n part) refl)
lines_begin n part (c ∷ a) b =
    at (nat_eq c 10) refl (lines_begin n [] a b) (lines_begin n (part ++ c ∷ []) a b)
  where
    at : (is : Bool) → nat_eq c 10 ≡ is
        → Begun (lines_from n false [] (a ++ b)) (lines_from n false [] a)
        → Begun (lines_from n false (part ++ c ∷ []) (a ++ b)) (lines_from n false (part ++ c ∷ []) a)
        → Begun (lines_from n false part (c ∷ (a ++ b))) (lines_from n false part (c ∷ a))
    at true e (rest, is) more =
        let ten : c ≡ 10 = grind (arith, e) in (
          rest,
          ten_step n false part c (a ++ b) ten ∙ ap (λ (ls : List LineSeen). line_of n true part ∷ ls) is
              ∙ ap (λ (ls : List LineSeen). ls ++ rest) (sym (ten_step n false part c a ten)),
        )
    at false e more (rest, is) =
        let other : c ≢ 10 = λ ten. absurd (grind (arith, e, ten)) in (
          rest,
          byte_step n false part c (a ++ b) other ∙ is
              ∙ ap (λ (ls : List LineSeen). ls ++ rest) (sym (byte_step n false part c a other)),
        )

-- likewise of the lines that engines send, which have a greatest length
engine_lines_begin : (a b : List ℕ) → (rest : List (Option (List ℕ))) × (engine_lines (a ++ b) ≡ engine_lines a ++ rest)
engine_lines_begin a b =
    let (rest, is) = lines_begin ENGINE_LINE_LEN [] a b in
    (map text_read rest, ap (λ (ls : List LineSeen). map text_read ls) is ∙ map-append text_read _ rest)

-- ---- what a device shows

-- a count that was 0 and is 0 shows that nothing failed
none_failed : (failed : Bool) (n m : ℕ) → n ≡ 0 → m ≡ 0 → m ≡ (if failed then saturating_increment n else n)
    → failed ≡ false
unfolding saturating_increment
none_failed false n m before after counts = refl
none_failed true n m before after counts = absurd (omega (arith, before, after, counts))

-- what was read is a beginning of what the engine says
read_of : (text : List ℕ) (old new : Option (List ℕ)) (read : List ℕ) → old ≡ Some text → Consumes old new read
    → (left : List ℕ) × (new ≡ Some left) × (text ≡ read ++ left)
read_of text None new read is took = absurd (cc)
read_of text (Some xs) None read is took = absurd took
read_of text (Some xs) (Some left) read is took = (left, refl, cc)

-- what was written is all that was sent
written_of : (old new : Option (List ℕ)) (bs : List ℕ) → old ≡ Some [] → Appends old new bs → new ≡ Some bs
written_of None new bs is took = absurd (cc)
written_of (Some xs) None bs is took = absurd took
written_of (Some xs) (Some ys) bs is took =
    let none : xs ≡ [] = cc in
    ap Some (took ∙ ap (λ (k : List ℕ). k ++ bs) none)

-- no block failed, if no call did
no_block_failed : (sent : List SentLine) (broken : List (List SentLine)) (o : ToOutput) → WasSent sent broken o
    → o.failed ≡ false → (nat_lt 0 (length broken) ≡ false) × (o ≡ all_for sent (bytes_of sent))
no_block_failed sent [] o was none = (refl, was)
no_block_failed sent (b ∷ []) o was none =
    let failed : o.failed ≡ true = ap (λ (x : ToOutput). x.failed) was.2 in absurd (let e : true ≡ false = sym failed ∙ none in cc)
no_block_failed sent (b ∷ c ∷ more) o was none = absurd was

-- ---- a match of these pipes

-- a moment that is known, otherwise 0
abbrev moment_or : Option ℕ → ℕ
moment_or None = 0
moment_or (Some n) = n

-- if the clock's next moment is known, it is the one that was shown
shown_moment : (o : Option ℕ) (shown : Option ℕ) → is_some o ≡ true → IfSome o (λ t. shown ≡ Some t)
    → shown ≡ Some (moment_or o)
shown_moment None shown h k = absurd (let e : false ≡ true = h in cc)
shown_moment (Some n) shown h k = k

-- what these engines and this clock give
abbrev pub streams : (Colour → List ℕ) → (ℕ → Option ℕ) → Streams
streams texts coming = record {
  lines = λ S. engine_lines (texts S);
  silent = λ S n. false;
  fails = λ S. false;
  breaks = λ S. None;
  moments = λ n. moment_or (coming n);
}

-- the world before a game whose engines will say just these texts
pub record Fresh (said : Colour → List ℕ) (shown : ℕ → Option ℕ) (w : World) : Type 0 where
  pub texts : (S : Colour) → (w.engines S).input.known_bytes ≡ Some (said S)
  pub unsent : (S : Colour) → (w.engines S).output.known_bytes ≡ Some []
  pub reads : (S : Colour) → (w.engines S).input.failure_count ≡ 0
  pub writes : (S : Colour) → (w.engines S).output.failure_count ≡ 0
  pub clock : (n : ℕ) → w.coming n ≡ shown n
  pub known : (n : ℕ) → is_some (shown n) ≡ true

-- nothing failed up to this world
pub record Whole (w : World) : Type 0 where
  pub reads : (S : Colour) → (w.engines S).input.failure_count ≡ 0
  pub writes : (S : Colour) → (w.engines S).output.failure_count ≡ 0

module _ (texts : Colour → List ℕ) (coming : ℕ → Option ℕ) (r : Rules) (H : List Act) (final : Match) (w w' : World)
    (fresh : Fresh texts coming w) (whole : Whole w') (p : Passed r H final w w') where
  -- what the arbiter read of an engine
  abbrev came : Colour → FromInput
  came S = (p.passed S).0

  -- what the arbiter wrote to an engine
  abbrev went : Colour → ToOutput
  went S = (p.passed S).1

  read : (S : Colour) → (left : List ℕ) × ((w'.engines S).input.known_bytes ≡ Some left) × (texts S ≡ (came S).text ++ left)
  read S = read_of (texts S) (w.engines S).input.known_bytes (w'.engines S).input.known_bytes (came S).text
      (fresh.texts S) (p.passed S).2.bytes

  no_read_failed : (S : Colour) → (came S).failed ≡ false
  no_read_failed S = none_failed (came S).failed (w.engines S).input.failure_count (w'.engines S).input.failure_count
      (fresh.reads S) (whole.reads S) (p.passed S).2.failures

  no_write_failed : (S : Colour) → (went S).failed ≡ false
  no_write_failed S = none_failed (went S).failed (w.engines S).output.failure_count (w'.engines S).output.failure_count
      (fresh.writes S) (whole.writes S) (p.passed S).3.failures

  -- all lines were written to the engine, and none broke off
  all_sent : (S : Colour) → (is_broken H S ≡ false) × (went S ≡ all_for (lines_sent S H) (bytes_of (lines_sent S H)))
  all_sent S = no_block_failed (lines_sent S H) (broken_blocks S H) (went S) (p.passed S).4.1 (no_write_failed S)

  -- the lines that were read are the first of those that the engine says
  lines_come : (S : Colour) → (rest : List (Option (List ℕ))) × (engine_lines (texts S) ≡ lines_read S H ++ rest)
  lines_come S =
      let (left, here, cut) = read S in
      let (more, begins) = engine_lines_begin (came S).text left in
      let (rest, first) = (p.passed S).4.0.lines in (
        rest ++ more,
        ap engine_lines cut ∙ begins ∙ ap (λ (ls : List (Option (List ℕ))). ls ++ more) first
            ∙ append_assoc (lines_read S H) rest more,
      )

  -- at the end of an output nothing is left of it
  ends_come : (S : Colour) → has_ended S H ≡ true → engine_lines (texts S) ≡ lines_read S H
  ends_come S over =
      let said = (p.passed S).4.0 in
      let ended : (came S).ended ≡ true = said.ended ∙ over in
      let (left, here, cut) = read S in
      let none : left ≡ [] = at_end (w'.engines S).input.known_bytes left here ((p.passed S).2.at_end ended) in
      ap engine_lines (cut ∙ ap (λ (k : List ℕ). (came S).text ++ k) none ∙ append-nil (came S).text)
      ∙ said.all (rw ended refl)
    where
      at_end : (known : Option (List ℕ)) (left : List ℕ) → known ≡ Some left → IsAtEnd known → left ≡ []
      at_end None left here none = absurd (cc)
      at_end (Some xs) left here none = let same : xs ≡ left = cc in sym same ∙ none

  -- the acts are those of these streams; `silent`: no look for a line found none
  pub are_of : AreSilent (λ S n. false) H → AreOf (streams texts coming) H
  are_of silent = record {
    reads = record {
      lines = lines_come;
      ends = λ S over. (ends_come S over, refl);
      failures = λ S failed. absurd (let e : true ≡ false = sym ((p.passed S).4.0.failed ∙ failed) ∙ no_read_failed S in cc);
      silences = silent;
      moments = λ n few. shown_moment (coming n) (slice_get (moments_shown H) n) (fresh.known n)
          (subst (λ (o : Option ℕ). IfSome o (λ t. slice_get (moments_shown H) n ≡ Some t)) (fresh.clock n)
          (p.moments.known n few));
    };
    sent = λ S whole. tt;
    broken = λ S broken. absurd (let e : true ≡ false = sym broken ∙ (all_sent S).0 in cc);
  }

  -- what an engine was sent
  pub sent_all : (S : Colour) → (w'.engines S).output.known_bytes ≡ Some (bytes_of (lines_sent S H))
  sent_all S =
      written_of (w.engines S).output.known_bytes (w'.engines S).output.known_bytes ((went S).flushed ++ (went S).left)
      (fresh.unsent S) (p.passed S).3.bytes
      ∙ ap (λ (o : ToOutput). Some (o.flushed ++ o.left)) (all_sent S).1
      ∙ ap Some (append-nil (bytes_of (lines_sent S H)))

  -- which moments the clock will show
  pub clock_left : (n : ℕ) → w'.coming n ≡ coming (length (moments_shown H) + n)
  clock_left n = p.moments.rest n ∙ fresh.clock (length (moments_shown H) + n)
