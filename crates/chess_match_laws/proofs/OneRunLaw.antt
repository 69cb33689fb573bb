-- There is only one match of a run whose devices show all, if the same looks for a line found none: the devices fix the
-- same bytes, moments and failures for both matches (`held`), so that both come from the same engines and clock
-- (`given_by`). OneLaw.only_one_by then applies, with blocks counted by their bytes.
use mathlib.Core.Bool.{or-true}
use Rattle.std.proofs.Common.{◌≡◌, ℕ, ◌+◌, ◌<◌, ◌≤◌, ◌^◌, ◌-◌, zero, suc, ◌||◌, ◌⊎◌, inl, inr, Bool, true, false, List, [], ◌∷◌, ◌++◌, length, length-append, refl, ap, sym, ◌∙◌, Option, None, Some, arith, IfSome, if◌then◌else◌, is_some, nat_lt, slice_get}
use Rattle.std.specs.Io.KnownBytes.{Appends, Consumes}
use Rattle.std.proofs.lemmas.List.{append_cancel_left, append_cancel_right}
use Rattle.byte_devices.specs.{Bytes.new_line, Devices.OutputState, Devices.saturating_add, Devices.saturating_increment, Transfers.FromInput, Transfers.ToOutput, Transfers.OutputTook}
use Rattle.chess_base.specs.{Men.other, Men.same_colour, Options.list_if, declared.man.Colour.Colour, declared.man.Colour.TheVariants.White}
use Rattle.byte_devices.proofs.{shared.Devices.add_some, shared.Transfers.saturating_increment_if}
use Rattle.chess_match.specs.Acts.{Act, Block, IsMatch, Sends, SendFails, Happens, block_of, blocks_from, is_over}
use Rattle.chess_match.specs.Events.{Line, Opened, Silent, OutputEnds, FailsToRead, FailsToWrite}
use Rattle.chess_match.specs.{Effects.Match, Effects.beginning, Effects.effect, Lines.SentLine, Lines.bytes_of, Lines.text_of, Rules.Rules, Run.engine_lines}
use Rattle.chess_match.specs.Played.{Passed, SaidBy, WasSent, World}
use Rattle.chess_match_laws.specs.Streams.{Streams}
use Rattle.chess_match.specs.laws.Laws.{broken_blocks, has_ended, has_failed_read, is_broken, lines_sent, moments_shown}
use Rattle.chess_match_laws.specs.OfActs.{AreSilent, HaveSameSilences, OnlyOneMatchOfARun, ShowsAll, ShowsFlushed}
use Rattle.chess_match.proofs.shared.MatchCases.{quiet_read, all_reads_end, all_sends_end, both_not, by_cases, reads_end}
use Rattle.chess_match_laws.proofs.OneLaw.{Held, Weigh, only_one_by, weight_sent}
use Rattle.chess_match.proofs.shared.Lines.{bytes_of-append}
use Rattle.chess_match_laws.proofs.Silences.{silences_are_asked_for}

-- from one state of a reader to another only one list of bytes can have come, if the bytes are known
one_given : (old new : Option (List ℕ)) (a b : List ℕ) → is_some old ≡ true → Consumes old new a → Consumes old new b
    → a ≡ b
one_given None new a b h x y = cc
one_given (Some xs) None a b h x y = absurd x
one_given (Some xs) (Some ys) a b h x y = append_cancel_right a b ys (sym x ∙ y)

-- a count that is not full can't be the same after it rose
rises : {A : Type 0} (n : ℕ) → n < 2 ^ 64 - 1 → n ≡ saturating_increment n → A
unfolding saturating_increment
rises n small e = absurd (omega (arith, small, e))

-- a count that can rise shows whether it did
one_rise : (n m : ℕ) (a b : Bool) → n < 2 ^ 64 - 1 → m ≡ saturating_increment_if a n → m ≡ saturating_increment_if b n
    → a ≡ b
one_rise n m true true small x y = refl
one_rise n m false false small x y = refl
one_rise n m true false small x y = rises n small (sym y ∙ x)
one_rise n m false true small x y = rises n small (sym x ∙ y)

-- ---- what was written

-- a block failed if and only if a call did
broken_is : (sent : List SentLine) (broken : List (List SentLine)) (o : ToOutput) → WasSent sent broken o
    → nat_lt 0 (length broken) ≡ o.failed
broken_is sent [] o was = sym (ap (λ (x : ToOutput). x.failed) was)
broken_is sent (b ∷ []) o was = sym (ap (λ (x : ToOutput). x.failed) was.2)
broken_is sent (b ∷ c ∷ more) o was = absurd was

-- what was flushed are the bytes of the lines that were sent
flushed_is : (sent : List SentLine) (broken : List (List SentLine)) (o : ToOutput) → WasSent sent broken o
    → o.flushed ≡ bytes_of sent
flushed_is sent [] o was = ap (λ (x : ToOutput). x.flushed) was
flushed_is sent (b ∷ []) o was = ap (λ (x : ToOutput). x.flushed) was.2
flushed_is sent (b ∷ c ∷ more) o was = absurd was

-- between two states of an output only one list of bytes can have gone to it, if the bytes are known
one_taken : (old new : Option (List ℕ)) (a b : List ℕ) → is_some old ≡ true → Appends old new a → Appends old new b
    → a ≡ b
one_taken None new a b h x y = cc
one_taken (Some xs) None a b h x y = absurd x
one_taken (Some xs) (Some ys) a b h x y = append_cancel_left xs a b (sym x ∙ y)

-- a count that is not full is a sum
sum_is : (n k sum : ℕ) → sum ≡ saturating_add n k → sum < 2 ^ 64 - 1 → sum ≡ n + k
sum_is n zero sum e small = e ∙ omega arith
sum_is n (suc k) sum e small = let full = e ∙ add_some n (suc k) (omega arith) in omega (arith, full, small)

-- of two accounts of a run by their lengths: each says whether a flush succeeded, how many bytes were flushed and how
-- many were left. If both have as many bytes in all, and as many are unflushed after both, as many were flushed
alike_flushed : (flush flush' : Bool) (flushed left flushed' left' before after : ℕ)
    → (flush ≡ false → flushed ≡ 0) → (flush' ≡ false → flushed' ≡ 0) → flushed + left ≡ flushed' + left'
    → after ≡ (if flush then 0 else before) + left → after ≡ (if flush' then 0 else before) + left'
    → flushed ≡ flushed'
alike_flushed true true flushed left flushed' left' before after none none' all e e' = omega (arith, all, e, e')
alike_flushed false true flushed left flushed' left' before after none none' all e e' =
    let zeros = none refl in omega (arith, all, e, e', zeros)
alike_flushed true false flushed left flushed' left' before after none none' all e e' =
    let zeros = none' refl in omega (arith, all, e, e', zeros)
alike_flushed false false flushed left flushed' left' before after none none' all e e' = none refl ∙ sym (none' refl)

-- as many bytes were flushed, if the output shows it
one_flushed : (old new : OutputState) (o o' : ToOutput) → ShowsFlushed old new → OutputTook old new o
    → OutputTook old new o' → length o.flushed ≡ length o'.flushed
one_flushed old new o o' shows took took' =
    let all : length (o.flushed ++ o.left) ≡ length (o'.flushed ++ o'.left) =
    ap length (one_taken old.known_bytes new.known_bytes (o.flushed ++ o.left) (o'.flushed ++ o'.left) shows.bytes
    took.bytes took'.bytes) in
    let x : length (o.flushed ++ o.left) ≡ length o.flushed + length o.left = length-append o.flushed o.left in
    let y : length (o'.flushed ++ o'.left) ≡ length o'.flushed + length o'.left = length-append o'.flushed o'.left in
    alike_flushed o.any_flush o'.any_flush (length o.flushed) (length o.left) (length o'.flushed) (length o'.left)
    old.unflushed new.unflushed (λ h. ap length (took.flushed h)) (λ h. ap length (took'.flushed h))
    (sym x ∙ all ∙ y) (sum_is _ (length o.left) new.unflushed took.unflushed shows.after)
    (sum_is _ (length o'.left) new.unflushed took'.unflushed shows.after)

-- an engine whose end was reported had no read that failed
no_failure : (S : Colour) (H : List Act) → reads_end H ≡ true → has_ended S H ≡ true → has_failed_read S H ≡ false
no_failure S [] e h = refl
no_failure S (Sends b ∷ H) e h = no_failure S H e h
no_failure S (SendFails b ∷ H) e h = no_failure S H e h
no_failure S (Happens (Line c t n) ∷ H) e h = no_failure S H e h
no_failure S (Happens (Opened c n) ∷ H) e h = no_failure S H e h
no_failure S (Happens (Silent c n) ∷ H) e h = no_failure S H e h
no_failure S (Happens (FailsToWrite c) ∷ H) e h = no_failure S H e h
no_failure S (Happens (OutputEnds c) ∷ H) e h = (quiet_read S H e).2
no_failure S (Happens (FailsToRead c) ∷ H) e h = both_not (has_ended S H) (quiet_read S H e).1 h

-- a moment; 0, if it is not known
abbrev moment_or : Option ℕ → ℕ
moment_or None = 0
moment_or (Some n) = n

-- a known moment is the one that was shown
shown_moment : (o : Option ℕ) (shown : Option ℕ) → is_some o ≡ true → IfSome o (λ t. shown ≡ Some t) → shown
    ≡ Some (moment_or o)
shown_moment None shown h k = cc
shown_moment (Some n) shown h k = k

-- how many bytes a side was sent, if sending failed then
abbrev stopped_at : Bool → List SentLine → Option ℕ
stopped_at broken sent = if broken then Some (length (bytes_of sent)) else None

-- what the run's devices gave
abbrev given_by : List Act → (Colour → List ℕ) → (Colour → ℕ → Bool) → (ℕ → Option ℕ) → Streams
given_by H given silent coming = record {
  lines = λ S. engine_lines (given S);
  silent = silent;
  fails = λ S. has_failed_read S H;
  breaks = λ S. stopped_at (is_broken H S) (lines_sent S H);
  moments = λ n. moment_or (coming n);
}

-- blocks count by their bytes
abbrev size : Block → ℕ
size b = length (bytes_of b.lines)

-- what is sent weighs as many bytes as its lines have
sizes : (S : Colour) (H : List Act) → weight_sent size S H ≡ length (bytes_of (lines_sent S H))
unfolding bytes_of
sizes S [] = refl
sizes S (Sends b ∷ H) = at (same_colour b.to S) (sizes S H)
  where
    at : (x : Bool) → weight_sent size S H ≡ length (bytes_of (lines_sent S H))
        → (if x then size b else 0) + weight_sent size S H ≡ length (bytes_of (list_if x b.lines ++ lines_sent S H))
    at true e =
        let l : length (bytes_of (b.lines ++ lines_sent S H)) ≡ size b + length (bytes_of (lines_sent S H)) =
        ap length (bytes_of-append b.lines (lines_sent S H))
        ∙ length-append (bytes_of b.lines) (bytes_of (lines_sent S H)) in
        omega (arith, e, l)
    at false e = omega (arith, e)
sizes S (SendFails b ∷ H) = sizes S H
sizes S (Happens e ∷ H) = sizes S H

-- each block that is due has a line, so bytes
abbrev HaveLines : List Block → Type 0
HaveLines [] = Unit {0}
HaveLines (b ∷ due) = (0 < size b) × HaveLines due

-- a line has bytes, at least its `\n`
line_bytes : (l : SentLine) (ls : List SentLine) → 0 < length (bytes_of (l ∷ ls))
unfolding bytes_of
line_bytes l ls =
    let e = length-append (text_of l) (new_line ∷ bytes_of ls) in omega (arith, e)

due_lines : (first : Colour) (to : Colour → List SentLine) → HaveLines (blocks_from first to)
due_lines first to = at (to first) (to (other first))
  where
    one : (x : List SentLine) → HaveLines (block_of (other first) x)
    one [] = tt
    one (l ∷ ls) = (line_bytes l ls, tt)

    at : (x y : List SentLine) → HaveLines (block_of first x ++ block_of (other first) y)
    at [] y = one y
    at (l ∷ ls) y = (line_bytes l ls, one y)

-- each block that a match sends weighs something, as it has bytes
all_weigh : (r : Rules) (H : List Act) (final : Match) → IsMatch r H final → Weigh size H
all_weigh r H final g = by_cases r final (λ m due H. HaveLines due → Weigh size H) (record {
  sends = λ m end b due H p have. (have.0, p have.1);
  fails = λ m end b due H on p have. p (due_lines White (effect r m (FailsToWrite b.to)).to);
  fails_late = λ m end b due H over p have. p have.1;
  reads = λ m end S t n H aw p have. p (due_lines (if is_over (effect r m (Line S t n)).after.phase then White else S)
      (effect r m (Line S t n)).to);
  opens = λ m end S n H o p have. p tt;
  silent = λ m end S n H aw limited p have. p (due_lines White (effect r m (Silent S n)).to);
  ends = λ m end S H aw p have. p (due_lines White (effect r m (OutputEnds S)).to);
  read_fails = λ m end S H aw p have. p (due_lines White (effect r m (FailsToRead S)).to);
}) (λ o have. tt) beginning.after (blocks_from White beginning.to) H g (due_lines White beginning.to)

-- how much was sent before a failure, by the bytes
stops_there : (broken : Bool) (sent : List SentLine) (n : ℕ) → (broken ≡ true → n ≡ length (bytes_of sent))
    → (broken ≡ false → IfSome (stopped_at broken sent) (λ k. n ≤ k))
    × (broken ≡ true → stopped_at broken sent ≡ Some n)
stops_there true sent n e = (λ h. absurd cc, λ h. ap Some (sym (e refl)))
stops_there false sent n e = (λ h. tt, λ h. absurd cc)

-- what the run's devices gave to the acts `K`, if it is what they gave to `H`
held : (r : Rules) (H K : List Act) (final : Match) (w w' : World) (given : Colour → FromInput)
    (silent : Colour → ℕ → Bool) → AreSilent silent K
    → Passed r K final w w' → ShowsAll w w' → ((S : Colour) → SaidBy S K (given S))
    → ((S : Colour) → has_failed_read S H ≡ has_failed_read S K) → ((S : Colour) → is_broken H S ≡ is_broken K S)
    → ((S : Colour) → is_broken K S ≡ true
    → length (bytes_of (lines_sent S K)) ≡ length (bytes_of (lines_sent S H)))
    → Held size (given_by H (λ S. (given S).text) silent w.coming) K
held r H K final w w' given silent found p t said same broke sent = (
  λ S. (said S).lines,
  λ S h. (
    (said S).all (ap (λ (x : Bool). x || (given S).failed) ((said S).ended ∙ h)),
    same S ∙ no_failure S K (all_reads_end r K final p.is_match) h,
  ),
  λ S h. (
    (said S).all (ap (λ (x : Bool). (given S).ended || x) ((said S).failed ∙ h) ∙ or-true (given S).ended),
    same S ∙ h,
  ),
  λ n h. shown_moment (w.coming n) (slice_get (moments_shown K) n) (t.moments n) (p.moments.known n h),
  found,
  λ S. let e = stops_there (is_broken H S) (lines_sent S H) (weight_sent size S K)
      (λ h. sizes S K ∙ sent S (sym (broke S) ∙ h)) in (
        λ h. e.0 (broke S ∙ h),
        λ h. e.1 (broke S ∙ h),
        all_sends_end r K final S p.is_match,
      ),
  all_weigh r K final p.is_match,
)

-- the same, but with these bytes
abbrev with_text : FromInput → List ℕ → FromInput
with_text i text = record i { text = text }

-- what an engine said, with its bytes written in another way
said_alike : (S : Colour) (K : List Act) (i : FromInput) (text : List ℕ) → text ≡ i.text → SaidBy S K i
    → SaidBy S K (with_text i text)
said_alike S K i text e h = record {
  lines = (h.lines.0, ap engine_lines e ∙ h.lines.1);
  ended = h.ended;
  failed = h.failed;
  silences = h.silences;
  all = λ over. ap engine_lines e ∙ h.all over;
  all_if_silent = λ none. ap engine_lines e ∙ h.all_if_silent none;
}

-- as many bytes were sent in both matches, if a write failed
alike_sent : (old new : OutputState) (sent sent' : List SentLine) (o o' : ToOutput) → old.failure_count < 2 ^ 64 - 1
    → (new.failure_count ≡ old.failure_count) ⊎ ShowsFlushed old new → OutputTook old new o → OutputTook old new o'
    → o.flushed ≡ bytes_of sent → o'.flushed ≡ bytes_of sent' → o'.failed ≡ true
    → length (bytes_of sent') ≡ length (bytes_of sent)
alike_sent old new sent sent' o o' small (inl same) took took' f f' failed = rises old.failure_count small
    (sym same ∙ took'.failures ∙ ap (λ (x : Bool). saturating_increment_if x old.failure_count) failed)
alike_sent old new sent sent' o o' small (inr shows) took took' f f' failed =
    ap length (sym f') ∙ sym (one_flushed old new o o' shows took took') ∙ ap length f

-- the same looks of both matches found none
same_looks : (r : Rules) (H K : List Act) (final final' : Match) → IsMatch r H final → IsMatch r K final'
    → HaveSameSilences r H K → (silent : Colour → ℕ → Bool) × AreSilent silent H × AreSilent silent K
same_looks r H K final final' h k (inl e) = (
  λ S n. false,
  (silences_are_asked_for r H final h e).1,
  (silences_are_asked_for r K final' k e).1,
)
same_looks r H K final final' h k (inr same) = same

pub only_one_of_a_run : OnlyOneMatchOfARun
only_one_of_a_run r H K final final' w w' p q t s =
    let (silent, of_H, of_K) = same_looks r H K final final' p.is_match q.is_match s in
    only_one_by size r (given_by H (λ S. (p.passed S).0.text) silent w.coming) H K final final' p.is_match q.is_match
    (held r H H final w w' (λ S. (p.passed S).0) silent of_H p t (λ S. (p.passed S).4.0) (λ S. refl) (λ S. refl)
    (λ S h. refl))
    (held r H K final' w w' (λ S. with_text (q.passed S).0 (p.passed S).0.text) silent of_K q t
    (λ S. said_alike S K (q.passed S).0 (p.passed S).0.text (same S) (q.passed S).4.0)
    (λ S. sym (p.passed S).4.0.failed
    ∙ one_rise (w.engines S).input.failure_count (w'.engines S).input.failure_count (p.passed S).0.failed
    (q.passed S).0.failed (t.reads S) (p.passed S).2.failures (q.passed S).2.failures
    ∙ (q.passed S).4.0.failed)
    broken sent)
  where
    same : (S : Colour) → (p.passed S).0.text ≡ (q.passed S).0.text
    same S = one_given (w.engines S).input.known_bytes (w'.engines S).input.known_bytes (p.passed S).0.text
        (q.passed S).0.text (t.bytes S) (p.passed S).2.bytes (q.passed S).2.bytes

    broken : (S : Colour) → is_broken H S ≡ is_broken K S
    broken S = broken_is (lines_sent S H) (broken_blocks S H) (p.passed S).1 (p.passed S).4.1
        ∙ one_rise (w.engines S).output.failure_count (w'.engines S).output.failure_count (p.passed S).1.failed
        (q.passed S).1.failed (t.writes S) (p.passed S).3.failures (q.passed S).3.failures
        ∙ sym (broken_is (lines_sent S K) (broken_blocks S K) (q.passed S).1 (q.passed S).4.1)

    sent : (S : Colour) → is_broken K S ≡ true
        → length (bytes_of (lines_sent S K)) ≡ length (bytes_of (lines_sent S H))
    sent S h = alike_sent (w.engines S).output (w'.engines S).output (lines_sent S H) (lines_sent S K) (p.passed S).1
        (q.passed S).1 (t.writes S) (t.sent S) (p.passed S).3 (q.passed S).3
        (flushed_is (lines_sent S H) (broken_blocks S H) (p.passed S).1 (p.passed S).4.1)
        (flushed_is (lines_sent S K) (broken_blocks S K) (q.passed S).1 (q.passed S).4.1)
        (sym (broken_is (lines_sent S K) (broken_blocks S K) (q.passed S).1 (q.passed S).4.1) ∙ h)
