-- Two matches by the same rules, of the same engines and clock, have the same acts and the same final state. By
-- induction over the acts of one (`one_by`): what comes next in it is what the engines and the clock give, so it comes
-- next in the other too, and both continue with what these give after that act. How much an engine can be sent before a
-- write fails may be counted in any weight of blocks (only_one_by): here each counts 1, in OneRunLaw its bytes.
use Rattle.std.proofs.Common.{◌≡◌, ℕ, ◌+◌, ◌-◌, ◌<◌, ◌≤◌, Bool, true, false, List, [], ◌∷◌, ◌++◌, length, drop, suc, subst, refl, ap, sym, ◌∙◌, append_assoc, lt-ltb, Option, None, Some, arith, IfSome, if◌then◌else◌, nat_lt, option_map, slice_get}
use Rattle.std.proofs.{Math.Seq.drop-append_seam, lemmas.Bool.and_parts, lemmas.Bool.or_left, lemmas.Bool.or_right}
use Rattle.chess_base.specs.{declared.man.Colour.Colour, declared.man.Colour.TheVariants.White, declared.man.Colour.TheVariants.Black, Men.same_colour, Options.list_if}
use Rattle.chess_base.proofs.shared.Men.{same_colour-self}
use Rattle.chess_match.specs.Acts.{Act, Block, IsMatch, IsMatchFrom, Sends, SendFails, Happens, awaits_line, blocks_from, is_limited, is_over}
use Rattle.chess_match.specs.{ByDevice.look, shared.Parts.blocks_after, Rules.Rules, Lines.SentLine}
use Rattle.chess_match.specs.Effects.{Match, Phase, Opening, beginning, effect}
use Rattle.chess_match.specs.Events.{Event, Line, Opened, Silent, OutputEnds, FailsToRead, FailsToWrite}
use Rattle.chess_match_laws.specs.{Streams.Streams, Streams.blocks_sent, Streams.looks, OfActs.AreOf, OfActs.OnlyOneMatch}
use Rattle.chess_match.specs.laws.Laws.{broken_blocks, has_ended, has_failed_read, is_broken, lines_read, moments_shown, match_after}
use Rattle.chess_match.proofs.shared.MatchCases.{all_sends_end, both_not, by_cases, none_read, on_when_read, sends_end, unread, unsent_in}
use Rattle.chess_match_laws.proofs.Points.{end_after_acts}

-- ---- what comes next

-- the acts of an event, and what follows them (`J`), are what follows in the match (`K`), where nothing is due; or it
-- is over
abbrev Begins : Rules → Match → Match → List Act → List Act → Option Event → Type 0
Begins r m final K J None = (K ≡ []) × (is_over m.phase ≡ true)
Begins r m final K J (Some (Line S t n)) = (K ≡ Happens (Line S t n) ∷ J) × (awaits_line m.phase S ≡ true)
    × IsMatchFrom r (effect r m (Line S t n)).after (blocks_after S (effect r m (Line S t n))) J final
Begins r m final K J (Some (Silent S n)) = (K ≡ Happens (Silent S n) ∷ J) × (awaits_line m.phase S ≡ true)
    × IsMatchFrom r (effect r m (Silent S n)).after (blocks_from White (effect r m (Silent S n)).to) J final
Begins r m final K J (Some (Opened S n)) = (K ≡ Happens (Opened S n) ∷ J) × (m.phase ≡ Opening S)
    × IsMatchFrom r (effect r m (Opened S n)).after [] J final
Begins r m final K J (Some (OutputEnds S)) = (K ≡ Happens (OutputEnds S) ∷ J) × (awaits_line m.phase S ≡ true)
    × IsMatchFrom r (effect r m (OutputEnds S)).after (blocks_from White (effect r m (OutputEnds S)).to) J final
Begins r m final K J (Some (FailsToRead S)) = (K ≡ Happens (FailsToRead S) ∷ J) × (awaits_line m.phase S ≡ true)
    × IsMatchFrom r (effect r m (FailsToRead S)).after (blocks_from White (effect r m (FailsToRead S)).to) J final
Begins r m final K J (Some (FailsToWrite S)) = ⊥

-- what comes next in a match in which no block is due
next : (r : Rules) (m final : Match) (K : List Act) → IsMatchFrom r m [] K final
    → (e : Option Event) × (J : List Act) × Begins r m final K J e
next r m final [] (o, e) = (None, [], (refl, o))
next r m final (Happens (Line S t n) ∷ J) (aw, g) = (Some (Line S t n), J, (refl, aw, g))
next r m final (Happens (Silent S n) ∷ J) (may, g) = (
  Some (Silent S n),
  J,
  (refl, (and_parts (awaits_line m.phase S) (is_limited r.patience m.phase) may).0, g),
)
next r m final (Happens (Opened S n) ∷ J) (o, g) = (Some (Opened S n), J, (refl, o, g))
next r m final (Happens (OutputEnds S) ∷ J) (aw, g) = (Some (OutputEnds S), J, (refl, aw, g))
next r m final (Happens (FailsToRead S) ∷ J) (aw, g) = (Some (FailsToRead S), J, (refl, aw, g))
next r m final (Happens (FailsToWrite S) ∷ J) (never, g) = absurd never
next r m final (Sends b ∷ J) g = absurd g
next r m final (SendFails b ∷ J) g = absurd g

-- one phase awaits one side's line
one_awaits : (p : Phase) (c d : Colour) → awaits_line p c ≡ true → awaits_line p d ≡ true → c ≡ d
one_awaits p c d h1 h2 = grind arith

-- a phase that awaits a line opens no turn
awaits_or_opens : {A : Type 0} (p : Phase) (c d : Colour) → awaits_line p c ≡ true → p ≡ Opening d → A
awaits_or_opens p c d h1 h2 = grind arith

-- ---- the streams after an act

drop_front : {A : Type 0} (a b c xs : List A) → xs ≡ (a ++ b) ++ c → drop (length a) xs ≡ b ++ c
drop_front a b c xs e = rw (e, append_assoc a b c) (drop-append_seam a (b ++ c))

drop_exact : {A : Type 0} (a b xs : List A) → xs ≡ a ++ b → drop (length a) xs ≡ b
drop_exact a b xs e = rw e (drop-append_seam a b)

-- the values `shown` are the first of those that are given
abbrev Shown : {A : Type 0} → List A → (ℕ → A) → Type 0
Shown shown given = (n : ℕ) → n < length shown → slice_get shown n ≡ Some (given n)

-- if a first value was shown, those after it are the first of the values given after it
later : {A : Type 0} (x : A) (shown : List A) (given : ℕ → A) → Shown (x ∷ shown) given
    → Shown shown (λ n. given (suc n))
later x shown given h1 n h2 = grind arith

-- the first value shown is the first one given
first_shown : {A : Type 0} (x : A) (shown : List A) (given : ℕ → A) → Shown (x ∷ shown) given
    → Some x ≡ Some (given 0)
first_shown x shown given h = h 0 (omega arith)

-- whether the later looks of a side find none, if this one was of that side (`own`) or of the other
abbrev later_looks : Bool → (ℕ → Bool) → ℕ → Bool
later_looks own silent n = if own then silent (suc n) else silent n

-- the later looks of a side, if the first act is a look of this side (`own`) or of the other
later_if : (own none : Bool) (shown : List Bool) (silent : ℕ → Bool)
    → Shown (list_if own (none ∷ []) ++ shown) silent → Shown shown (later_looks own silent)
later_if true none shown silent h = later none shown silent h
later_if false none shown silent h = h

-- ---- how much an engine can be sent

-- how much the side is sent, if each block weighs what `w` says
abbrev pub weight_sent : (Block → ℕ) → Colour → List Act → ℕ
weight_sent w S [] = 0
weight_sent w S (Sends b ∷ H) = (if same_colour b.to S then w b else 0) + weight_sent w S H
weight_sent w S (_ ∷ H) = weight_sent w S H

-- each block that is sent weighs something
abbrev pub Weigh : (Block → ℕ) → List Act → Type 0
Weigh w [] = Unit {0}
Weigh w (Sends b ∷ H) = (0 < w b) × Weigh w H
Weigh w (_ ∷ H) = Weigh w H

-- `n` is how much the side can be sent before sending a block fails (`None`: none fails), and after a failure it is
-- sent nothing
abbrev pub Breaks : (Block → ℕ) → Colour → Option ℕ → List Act → Type 0
Breaks w S n H = (is_broken H S ≡ false → IfSome n (λ k. weight_sent w S H ≤ k))
    × (is_broken H S ≡ true → n ≡ Some (weight_sent w S H)) × (sends_end S H ≡ true)

-- where nothing is sent to a side, the first act is not to it
pub not_to : (x more : Bool) → (if x then false else more) ≡ true → (x ≡ false) × (more ≡ true)
not_to true more h = absurd cc
not_to false more h = (refl, h)

-- in acts that send nothing to S no block for S fails; by the next lemmas nothing weighs anything, and nothing is sent
-- to S after a failure
pub silent_unbroken : (S : Colour) (H : List Act) → unsent_in S H ≡ true → broken_blocks S H ≡ []
silent_unbroken S [] u = refl
silent_unbroken S (Sends b ∷ H) u = silent_unbroken S H (not_to (same_colour b.to S) (unsent_in S H) u).1
silent_unbroken S (SendFails b ∷ H) u =
    let (other, more) = not_to (same_colour b.to S) (unsent_in S H) u in rw other (silent_unbroken S H more)
silent_unbroken S (Happens e ∷ H) u = silent_unbroken S H u

silent_weight : (w : Block → ℕ) (S : Colour) (H : List Act) → unsent_in S H ≡ true → weight_sent w S H ≡ 0
silent_weight w S [] u = refl
silent_weight w S (Sends b ∷ H) u =
    let (other, more) = not_to (same_colour b.to S) (unsent_in S H) u in
    let e = silent_weight w S H more in rw other (omega (arith, e))
silent_weight w S (SendFails b ∷ H) u = silent_weight w S H (not_to (same_colour b.to S) (unsent_in S H) u).1
silent_weight w S (Happens e ∷ H) u = silent_weight w S H u

silent_ends : (S : Colour) (H : List Act) → unsent_in S H ≡ true → sends_end S H ≡ true
silent_ends S [] u = refl
silent_ends S (Sends b ∷ H) u = silent_ends S H (not_to (same_colour b.to S) (unsent_in S H) u).1
silent_ends S (SendFails b ∷ H) u =
    let (other, more) = not_to (same_colour b.to S) (unsent_in S H) u in rw other (silent_ends S H more)
silent_ends S (Happens e ∷ H) u = silent_ends S H u

-- how much can still be sent, after `x` was
abbrev less_by : ℕ → Option ℕ → Option ℕ
less_by x n = option_map (λ k. k - x) n

less_or : (x y : ℕ) (n : Option ℕ) → IfSome n (λ k. x + y ≤ k) → IfSome (less_by x n) (λ k. y ≤ k)
less_or x y None h = tt
less_or x y (Some k) h = omega (arith, h)

less_is : (x y : ℕ) (n : Option ℕ) → n ≡ Some (x + y) → less_by x n ≡ Some y
less_is x y n e = let same : (x + y) - x ≡ y = omega arith in ap (less_by x) e ∙ ap Some same

-- after a block was sent, that much less can be sent
breaks_sent : (w : Block → ℕ) (S : Colour) (n : Option ℕ) (b : Block) (H : List Act) → Breaks w S n (Sends b ∷ H)
    → Breaks w S (less_by (if same_colour b.to S then w b else 0) n) H
breaks_sent w S n b H (whole, broke, end) = (
  λ h. less_or (if same_colour b.to S then w b else 0) (weight_sent w S H) n (whole h),
  λ h. less_is (if same_colour b.to S then w b else 0) (weight_sent w S H) n (broke h),
  end,
)

-- a list that begins with a failed block has one
some_broken : (lines : List SentLine) (more : List (List SentLine)) → nat_lt 0 (length (lines ∷ more)) ≡ true
some_broken lines more = lt-ltb 0 (length (lines ∷ more)) (omega arith)

-- a block fails now: so its side could be sent no more
breaks_at : (w : Block → ℕ) (n : Option ℕ) (b : Block) (H : List Act) → Breaks w b.to n (SendFails b ∷ H)
    → n ≡ Some 0
breaks_at w n b H (whole, broke, end) = at (same_colour b.to b.to) (same_colour-self b.to) broke end
  where
    at : (x : Bool) → x ≡ true
        → (nat_lt 0 (length (list_if x (b.lines ∷ []) ++ broken_blocks b.to H)) ≡ true
        → n ≡ Some (weight_sent w b.to H))
        → (if x then unsent_in b.to H else sends_end b.to H) ≡ true → n ≡ Some 0
    at true e broke end = broke (some_broken b.lines (broken_blocks b.to H)) ∙ ap Some (silent_weight w b.to H end)
    at false e broke end = absurd cc

-- after a block failed, each side can be sent as much as before
breaks_failed : (w : Block → ℕ) (S : Colour) (n : Option ℕ) (b : Block) (H : List Act)
    → Breaks w S n (SendFails b ∷ H) → Breaks w S n H
breaks_failed w S n b H (whole, broke, end) = at (same_colour b.to S) whole broke end
  where
    at : (x : Bool)
        → (nat_lt 0 (length (list_if x (b.lines ∷ []) ++ broken_blocks S H)) ≡ false
        → IfSome n (λ k. weight_sent w S H ≤ k))
        → (nat_lt 0 (length (list_if x (b.lines ∷ []) ++ broken_blocks S H)) ≡ true → n ≡ Some (weight_sent w S H))
        → (if x then unsent_in S H else sends_end S H) ≡ true → Breaks w S n H
    at true whole broke end =
        let e : n ≡ Some (weight_sent w S H) = broke (some_broken b.lines (broken_blocks S H)) in (
          λ h. subst (λ (o : Option ℕ). IfSome o (λ k. weight_sent w S H ≤ k)) (sym e) (omega arith),
          λ h. e,
          silent_ends S H end,
        )
    at false whole broke end = (whole, broke, end)

-- a block can't both be sent and fail, for the same limit
apart : {A : Type 0} (w : Block → ℕ) (n : Option ℕ) (b : Block) (H K : List Act) → 0 < w b
    → Breaks w b.to n (Sends b ∷ H) → Breaks w b.to n (SendFails b ∷ K) → A
apart w n b H K weighs (whole, broke, end) q =
    at (same_colour b.to b.to) (same_colour-self b.to) (is_broken H b.to) refl
    (λ h. subst (λ (o : Option ℕ). IfSome o (λ k. weight_sent w b.to (Sends b ∷ H) ≤ k)) none (whole h))
    (λ h. sym none ∙ broke h)
  where
    none : n ≡ Some 0
    none = breaks_at w n b K q

    at : {A : Type 0} (x : Bool) → x ≡ true → (y : Bool) → is_broken H b.to ≡ y
        → (is_broken H b.to ≡ false → (if x then w b else 0) + weight_sent w b.to H ≤ 0)
        → (is_broken H b.to ≡ true → Some 0 ≡ Some ((if x then w b else 0) + weight_sent w b.to H)) → A
    at false e y is whole broke = absurd cc
    at true e false is whole broke = let h : w b + weight_sent w b.to H ≤ 0 = whole is in absurd (omega (arith, h, weighs))
    at true e true is whole broke =
        let h : 0 ≡ w b + weight_sent w b.to H = of_some (broke is) in absurd (omega (arith, h, weighs))
      where
        of_some : {a c : ℕ} → Some a ≡ Some c → a ≡ c
        of_some e = cc

-- ---- the acts of these engines

-- these acts come from these engines and this clock, as `AreOf` has it, where blocks weigh what `w` says
abbrev pub Held : (Block → ℕ) → Streams → List Act → Type 0
Held w s H = ((S : Colour) → (rest : List (Option (List ℕ))) × (s.lines S ≡ lines_read S H ++ rest))
    × ((S : Colour) → has_ended S H ≡ true → (s.lines S ≡ lines_read S H) × (s.fails S ≡ false))
    × ((S : Colour) → has_failed_read S H ≡ true → (s.lines S ≡ lines_read S H) × (s.fails S ≡ true))
    × Shown (moments_shown H) s.moments × ((S : Colour) → Shown (looks S H) (s.silent S))
    × ((S : Colour) → Breaks w S (s.breaks S) H) × Weigh w H

-- the line of S, as a list of one for S and empty for the other side
abbrev line_of : Colour → Option (List ℕ) → Colour → List (Option (List ℕ))
line_of S t X = list_if (same_colour S X) (t ∷ [])

-- after a look for a line of S
abbrev after_look : Colour → Streams → Streams
after_look S s = record s { silent = λ X. later_looks (same_colour S X) (s.silent X) }

-- what the engines and the clock give after a line of S was read
abbrev after_read : Colour → Option (List ℕ) → Streams → Streams
after_read S t s = record (after_look S s) {
  lines = λ X. drop (length (line_of S t X)) (s.lines X);
  moments = λ n. s.moments (suc n);
}

-- what they give after a silence of S
abbrev after_silence : Colour → Streams → Streams
after_silence S s = record (after_look S s) { moments = λ n. s.moments (suc n) }

-- what they give after a block was sent
abbrev after_sent : (Block → ℕ) → Block → Streams → Streams
after_sent w b s = record s { breaks = λ X. less_by (if same_colour b.to X then w b else 0) (s.breaks X) }

-- where the acts are the same, so is the end
same_end : (r : Rules) (H K : List Act) (final final' : Match) → IsMatch r H final → IsMatch r K final'
    → H ≡ K → final ≡ final'
same_end r H K final final' h k e = sym (end_after_acts r H final h)
    ∙ ap (λ (L : List Act). match_after r beginning.after L) e ∙ end_after_acts r K final' k

module _ (w : Block → ℕ) where
  -- if the acts come from these engines, those after the first come from what these give after it: after a line, and by
  -- the next lemmas after each other act
  of_read : (s : Streams) (S : Colour) (t : Option (List ℕ)) (n : ℕ) (H : List Act)
      → Held w s (Happens (Line S t n) ∷ H) → Held w (after_read S t s) H
  of_read s S t n H (lines, ends, failures, moments, looked, breaks, weigh) = (
    λ X. ((lines X).0, drop_front (line_of S t X) (lines_read X H) (lines X).0 (s.lines X) (lines X).1),
    λ X h. (drop_exact (line_of S t X) (lines_read X H) (s.lines X) (ends X h).0, (ends X h).1),
    λ X h. (drop_exact (line_of S t X) (lines_read X H) (s.lines X) (failures X h).0, (failures X h).1),
    later n (moments_shown H) s.moments moments,
    λ X. later_if (same_colour S X) false (looks X H) (s.silent X) (looked X),
    breaks,
    weigh,
  )

  of_silent : (s : Streams) (S : Colour) (n : ℕ) (H : List Act) → Held w s (Happens (Silent S n) ∷ H)
      → Held w (after_silence S s) H
  of_silent s S n H o = (
    o.0,
    o.1,
    o.2,
    later n (moments_shown H) s.moments o.3,
    λ X. later_if (same_colour S X) true (looks X H) (s.silent X) (o.4 X),
    o.5,
    o.6,
  )

  of_opened : (s : Streams) (S : Colour) (n : ℕ) (H : List Act) → Held w s (Happens (Opened S n) ∷ H)
      → Held w (record s { moments = λ n. s.moments (suc n) }) H
  of_opened s S n H o = (o.0, o.1, o.2, later n (moments_shown H) s.moments o.3, o.4, o.5, o.6)

  of_end : (s : Streams) (S : Colour) (H : List Act) → Held w s (Happens (OutputEnds S) ∷ H)
      → Held w (after_look S s) H
  of_end s S H o = (
    o.0,
    λ X h. o.1 X (or_right (same_colour S X) (has_ended X H) h),
    o.2,
    o.3,
    λ X. later_if (same_colour S X) false (looks X H) (s.silent X) (o.4 X),
    o.5,
    o.6,
  )

  of_failure : (s : Streams) (S : Colour) (H : List Act) → Held w s (Happens (FailsToRead S) ∷ H)
      → Held w (after_look S s) H
  of_failure s S H o = (
    o.0,
    o.1,
    λ X h. o.2 X (or_right (same_colour S X) (has_failed_read X H) h),
    o.3,
    λ X. later_if (same_colour S X) false (looks X H) (s.silent X) (o.4 X),
    o.5,
    o.6,
  )

  of_sent : (s : Streams) (b : Block) (H : List Act) → Held w s (Sends b ∷ H) → Held w (after_sent w b s) H
  of_sent s b H o = (o.0, o.1, o.2, o.3, o.4, λ X. breaks_sent w X (s.breaks X) b H (o.5 X), o.6.1)

  of_broken : (s : Streams) (b : Block) (H : List Act) → Held w s (SendFails b ∷ H) → Held w s H
  of_broken s b H o = (o.0, o.1, o.2, o.3, o.4, λ X. breaks_failed w X (s.breaks X) b H (o.5 X), o.6)

  -- ---- a line, or none yet

  -- what the first look for a line of S finds
  first_look : (s : Streams) (S : Colour) (a : Act) (none : Bool) (H : List Act) → look S a ≡ none ∷ []
      → Held w s (a ∷ H) → s.silent S 0 ≡ none
  first_look s S a none H e o = of_some (first_shown none (looks S H) (s.silent S)
      (subst (λ (l : List Bool). Shown (l ++ looks S H) (s.silent S)) e (o.4 S)))
    where
      of_some : {x y : Bool} → Some x ≡ Some y → y ≡ x
      of_some e = cc

  -- a look of S counts for S
  own_look : (S : Colour) (none : Bool) → list_if (same_colour S S) (none ∷ []) ≡ none ∷ []
  own_look S none = ap (λ (b : Bool). list_if b (none ∷ [])) (same_colour-self S)

  -- the same look can't find none and, in the other match, a line, an end or a failure
  none_or_some : {A : Type 0} (s : Streams) (S c : Colour) (n : ℕ) (a : Act) (H K : List Act) → S ≡ c
      → look c a ≡ false ∷ [] → Held w s (Happens (Silent S n) ∷ H) → Held w s (a ∷ K) → A
  none_or_some s S c n a H K same e o q = both_not (s.silent c 0) (first_look s c a false K e q)
      (ap (λ (x : Colour). s.silent x 0) (sym same)
      ∙ first_look s S (Happens (Silent S n)) true H (own_look S true) o)

  -- ---- the first line, or none

  -- a line that is read is the first that the engine gives
  first_line : (s : Streams) (S : Colour) (t : Option (List ℕ)) (n : ℕ) (H : List Act)
      → Held w s (Happens (Line S t n) ∷ H) → (rest : List (Option (List ℕ))) × (s.lines S ≡ t ∷ rest)
  first_line s White t n H o = (lines_read White H ++ (o.0 White).0, (o.0 White).1)
  first_line s Black t n H o = (lines_read Black H ++ (o.0 Black).0, (o.0 Black).1)

  -- acts that read nothing have no lines
  unread_none : (S : Colour) (H : List Act) → unread H ≡ true → lines_read S H ≡ []
  unread_none S [] h = refl
  unread_none S (Sends b ∷ H) h = unread_none S H h
  unread_none S (SendFails b ∷ H) h = unread_none S H h
  unread_none S (Happens (Opened c n) ∷ H) h = unread_none S H h
  unread_none S (Happens (FailsToWrite c) ∷ H) h = unread_none S H h
  unread_none S (Happens (Line c t n) ∷ H) h = absurd cc
  unread_none S (Happens (Silent c n) ∷ H) h = absurd cc
  unread_none S (Happens (OutputEnds c) ∷ H) h = absurd cc
  unread_none S (Happens (FailsToRead c) ∷ H) h = absurd cc

  -- an engine whose end was reported, or of which a read failed, has no line left
  ended_none : (s : Streams) (S : Colour) (H : List Act) → unread H ≡ true
      → Held w s (Happens (OutputEnds S) ∷ H) → (s.lines S ≡ []) × (s.fails S ≡ false)
  ended_none s S H u o =
      let e = o.1 S (or_left (same_colour S S) (has_ended S H) (same_colour-self S)) in
      (e.0 ∙ unread_none S H u, e.1)

  -- an engine of which a read failed has no line left
  failed_none : (s : Streams) (S : Colour) (H : List Act) → unread H ≡ true
      → Held w s (Happens (FailsToRead S) ∷ H) → (s.lines S ≡ []) × (s.fails S ≡ true)
  failed_none s S H u o =
      let e = o.2 S (or_left (same_colour S S) (has_failed_read S H) (same_colour-self S)) in
      (e.0 ∙ unread_none S H u, e.1)

  -- an engine that gives no line gives none to be read
  line_not_none : {A : Type 0} (s : Streams) (S c : Colour) (t : Option (List ℕ)) (n : ℕ) (H : List Act) → S ≡ c
      → Held w s (Happens (Line S t n) ∷ H) → s.lines c ≡ [] → A
  line_not_none s S c t n H e o k = absurd (at (s.lines S) (first_line s S t n H o).1 (ap s.lines e ∙ k))
    where
      at : (xs : List (Option (List ℕ))) → xs ≡ t ∷ (first_line s S t n H o).0 → xs ≡ [] → ⊥
      at xs e k = cc

  -- two first lines of the same engine, with the same moment, are the same event; in the same way silences and openings
  same_line : (c d : Colour) (t u : Option (List ℕ)) (n k m : ℕ) (rest rest' lines lines' : List (Option (List ℕ)))
      → c ≡ d → lines ≡ t ∷ rest → lines' ≡ u ∷ rest' → lines ≡ lines' → Some n ≡ Some m → Some k ≡ Some m
      → Line c t n ≡ Line d u k
  same_line c d t u n k m rest rest' lines lines' e f g l x y = cc

  same_silent : (c d : Colour) (n k m : ℕ) → c ≡ d → Some n ≡ Some m → Some k ≡ Some m → Silent c n ≡ Silent d k
  same_silent c d n k m e x y = cc

  same_opened : (c d : Colour) (n k m : ℕ) (p : Phase) → p ≡ Opening c → p ≡ Opening d → Some n ≡ Some m
      → Some k ≡ Some m → Opened c n ≡ Opened d k
  same_opened c d n k m p e f x y = cc

  -- ---- the whole

  -- the acts `H` are what follows in the match `m`: any acts that follow there, and come from the same engines and
  -- clock, are these
  abbrev One : Rules → Match → List Block → List Act → Type 0
  One r m due H = (s : Streams) (K : List Act) (final : Match) → IsMatchFrom r m due K final → Held w s H → Held w s K
      → H ≡ K

  -- the first act is a block that was sent; in the lemmas after it, another kind of act
  one_sends : (r : Rules) (m : Match) (b : Block) (due : List Block) (H : List Act) → One r m due H
      → One r m (b ∷ due) (Sends b ∷ H)
  one_sends r m b due H p s (Sends c ∷ K) final (e, g) o q =
      let q' : Held w s (Sends b ∷ K) = subst (λ (x : Block). Held w s (Sends x ∷ K)) (sym e) q in
      let same : H ≡ K = p (after_sent w b s) K final g (of_sent s b H o) (of_sent s b K q') in rw (e, same) refl
  one_sends r m b due H p s (SendFails c ∷ K) final (e, g) o q =
      let q' : Held w s (SendFails b ∷ K) = subst (λ (x : Block). Held w s (SendFails x ∷ K)) (sym e) q in
      apart w (s.breaks b.to) b H K o.6.0 (o.5 b.to) (q'.5 b.to)
  one_sends r m b due H p s [] final g o q = absurd g
  one_sends r m b due H p s (Happens e ∷ K) final g o q = absurd g

  -- what follows after a block that fails and ends the match, and (`fails_over`) after one that fails after the end
  fails_on : (r : Rules) (m final : Match) (b c : Block) (due : List Block) (K : List Act) → is_over m.phase ≡ false
      → IsMatchFrom r m (b ∷ due) (SendFails c ∷ K) final
      → IsMatchFrom r (effect r m (FailsToWrite b.to)).after (blocks_from White (effect r m (FailsToWrite b.to)).to) K
      final
  fails_on r m final b c due K on (e, g) = subst
      (λ (x : Bool). let n : Match × List Block = if x then (m, due) else (
        (effect r m (FailsToWrite b.to)).after,
        blocks_from White (effect r m (FailsToWrite b.to)).to,
      ) in IsMatchFrom r n.0 n.1 K final) on
      (subst (λ (x : Block). let n : Match × List Block = if is_over m.phase then (m, due) else (
        (effect r m (FailsToWrite x.to)).after,
        blocks_from White (effect r m (FailsToWrite x.to)).to,
      ) in IsMatchFrom r n.0 n.1 K final) (sym e) g)

  fails_over : (r : Rules) (m final : Match) (b c : Block) (due : List Block) (K : List Act) → is_over m.phase ≡ true
      → IsMatchFrom r m (b ∷ due) (SendFails c ∷ K) final → IsMatchFrom r m due K final
  fails_over r m final b c due K over (e, g) = subst
      (λ (x : Bool). let n : Match × List Block = if x then (m, due) else (
        (effect r m (FailsToWrite c.to)).after,
        blocks_from White (effect r m (FailsToWrite c.to)).to,
      ) in IsMatchFrom r n.0 n.1 K final) over g

  -- the first act is a block that failed
  one_breaks : (r : Rules) (m m' : Match) (b : Block) (due due' : List Block) (H : List Act) → One r m' due' H
      → ((c : Block) (K : List Act) (final : Match) → IsMatchFrom r m (b ∷ due) (SendFails c ∷ K) final
      → IsMatchFrom r m' due' K final)
      → One r m (b ∷ due) (SendFails b ∷ H)
  one_breaks r m m' b due due' H p next s (SendFails c ∷ K) final g o q =
      let q' : Held w s (SendFails b ∷ K) = subst (λ (x : Block). Held w s (SendFails x ∷ K)) (sym g.0) q in
      let same : H ≡ K = p s K final (next c K final g) (of_broken s b H o) (of_broken s b K q') in rw (g.0, same) refl
  one_breaks r m m' b due due' H p next s (Sends c ∷ K) final (e, g) o q =
      let q' : Held w s (Sends b ∷ K) = subst (λ (x : Block). Held w s (Sends x ∷ K)) (sym e) q in
      apart w (s.breaks b.to) b K H q'.6.0 (q'.5 b.to) (o.5 b.to)
  one_breaks r m m' b due due' H p next s [] final g o q = absurd g
  one_breaks r m m' b due due' H p next s (Happens e ∷ K) final g o q = absurd g

  -- the first act is a line
  one_reads : (r : Rules) (m : Match) (S : Colour) (t : Option (List ℕ)) (n : ℕ) (H : List Act)
      → awaits_line m.phase S ≡ true
      → One r (effect r m (Line S t n)).after (blocks_after S (effect r m (Line S t n))) H
      → One r m [] (Happens (Line S t n) ∷ H)
  one_reads r m S t n H aw p s K final g o q = let (e, J, x) = next r m final K g in at e J x
    where
      at : (e : Option Event) (J : List Act) → Begins r m final K J e → Happens (Line S t n) ∷ H ≡ K
      at None J (is, over) = both_not (is_over m.phase) (on_when_read m.phase S aw) over
      at (Some (Line c u k)) J x =
          let q' : Held w s (Happens (Line c u k) ∷ J) = subst (λ (L : List Act). Held w s L) x.0 q in
          let side : S ≡ c = one_awaits m.phase S c aw x.1 in
          let same : Line S t n ≡ Line c u k = same_line S c t u n k (s.moments 0) (first_line s S t n H o).0
          (first_line s c u k J q').0 (s.lines S) (s.lines c) side (first_line s S t n H o).1 (first_line s c u k J q').1
          (ap s.lines side) (first_shown n (moments_shown H) s.moments o.3)
          (first_shown k (moments_shown J) s.moments q'.3) in
          let y : Begins r m final K J (Some (Line S t n)) =
          subst (λ (e : Event). Begins r m final K J (Some e)) (sym same) x in
          ap (λ (L : List Act). Happens (Line S t n) ∷ L) (p (after_read S t s) J final y.2 (of_read s S t n H o)
          (of_read s S t n J (subst (λ (L : List Act). Held w s L) y.0 q))) ∙ sym y.0
      at (Some (Silent c k)) J x = none_or_some s c S k (Happens (Line S t n)) J H (one_awaits m.phase c S x.1 aw)
          (own_look S false) (subst (λ (L : List Act). Held w s L) x.0 q) o
      at (Some (Opened c k)) J x = awaits_or_opens m.phase S c aw x.1
      at (Some (OutputEnds c)) J x = line_not_none s S c t n H (one_awaits m.phase S c aw x.1) o
          (ended_none s c J (none_read r _ final _ J x.2 refl) (subst (λ (L : List Act). Held w s L) x.0 q)).0
      at (Some (FailsToRead c)) J x = line_not_none s S c t n H (one_awaits m.phase S c aw x.1) o
          (failed_none s c J (none_read r _ final _ J x.2 refl) (subst (λ (L : List Act). Held w s L) x.0 q)).0
      at (Some (FailsToWrite c)) J x = absurd x

  -- the first act is a silence
  one_silent : (r : Rules) (m : Match) (S : Colour) (n : ℕ) (H : List Act) → awaits_line m.phase S ≡ true
      → One r (effect r m (Silent S n)).after (blocks_from White (effect r m (Silent S n)).to) H
      → One r m [] (Happens (Silent S n) ∷ H)
  one_silent r m S n H aw p s K final g o q = let (e, J, x) = next r m final K g in at e J x
    where
      some : {A : Type 0} (c : Colour) (a : Act) (J : List Act) → awaits_line m.phase c ≡ true
          → look c a ≡ false ∷ [] → K ≡ a ∷ J → A
      some c a J there e is = none_or_some s S c n a H J (one_awaits m.phase S c aw there) e o
          (subst (λ (L : List Act). Held w s L) is q)

      at : (e : Option Event) (J : List Act) → Begins r m final K J e → Happens (Silent S n) ∷ H ≡ K
      at None J (is, over) = both_not (is_over m.phase) (on_when_read m.phase S aw) over
      at (Some (Silent c k)) J x =
          let q' : Held w s (Happens (Silent c k) ∷ J) = subst (λ (L : List Act). Held w s L) x.0 q in
          let same : Silent S n ≡ Silent c k = same_silent S c n k (s.moments 0) (one_awaits m.phase S c aw x.1)
          (first_shown n (moments_shown H) s.moments o.3) (first_shown k (moments_shown J) s.moments q'.3) in
          let y : Begins r m final K J (Some (Silent S n)) =
          subst (λ (e : Event). Begins r m final K J (Some e)) (sym same) x in
          ap (λ (L : List Act). Happens (Silent S n) ∷ L) (p (after_silence S s) J final y.2 (of_silent s S n H o)
          (of_silent s S n J (subst (λ (L : List Act). Held w s L) y.0 q))) ∙ sym y.0
      at (Some (Line c u k)) J x = some c (Happens (Line c u k)) J x.1 (own_look c false) x.0
      at (Some (OutputEnds c)) J x = some c (Happens (OutputEnds c)) J x.1 (own_look c false) x.0
      at (Some (FailsToRead c)) J x = some c (Happens (FailsToRead c)) J x.1 (own_look c false) x.0
      at (Some (Opened c k)) J x = awaits_or_opens m.phase S c aw x.1
      at (Some (FailsToWrite c)) J x = absurd x

  -- the first act is the moment of an opening
  one_opens : (r : Rules) (m : Match) (S : Colour) (n : ℕ) (H : List Act) → m.phase ≡ Opening S
      → One r (effect r m (Opened S n)).after [] H → One r m [] (Happens (Opened S n) ∷ H)
  one_opens r m S n H opening p s K final g o q = let (e, J, x) = next r m final K g in at e J x
    where
      at : (e : Option Event) (J : List Act) → Begins r m final K J e → Happens (Opened S n) ∷ H ≡ K
      at None J (is, over) = both_not (is_over m.phase) (ap is_over opening) over
      at (Some (Opened c k)) J x =
          let q' : Held w s (Happens (Opened c k) ∷ J) = subst (λ (L : List Act). Held w s L) x.0 q in
          let same : Opened S n ≡ Opened c k = same_opened S c n k (s.moments 0) m.phase opening x.1
          (first_shown n (moments_shown H) s.moments o.3)
          (first_shown k (moments_shown J) s.moments q'.3) in
          let y : Begins r m final K J (Some (Opened S n)) =
          subst (λ (e : Event). Begins r m final K J (Some e)) (sym same) x in
          ap (λ (L : List Act). Happens (Opened S n) ∷ L) (p (record s { moments = λ n. s.moments (suc n) }) J final y.2
          (of_opened s S n H o) (of_opened s S n J (subst (λ (L : List Act). Held w s L) y.0 q))) ∙ sym y.0
      at (Some (Line c u k)) J x = awaits_or_opens m.phase c S x.1 opening
      at (Some (Silent c k)) J x = awaits_or_opens m.phase c S x.1 opening
      at (Some (OutputEnds c)) J x = awaits_or_opens m.phase c S x.1 opening
      at (Some (FailsToRead c)) J x = awaits_or_opens m.phase c S x.1 opening
      at (Some (FailsToWrite c)) J x = absurd x

  -- the first act is the end of an output
  one_ends : (r : Rules) (m : Match) (S : Colour) (H : List Act) → awaits_line m.phase S ≡ true → unread H ≡ true
      → One r (effect r m (OutputEnds S)).after (blocks_from White (effect r m (OutputEnds S)).to) H
      → One r m [] (Happens (OutputEnds S) ∷ H)
  one_ends r m S H aw u p s K final g o q = let (e, J, x) = next r m final K g in at e J x
    where
      none : (s.lines S ≡ []) × (s.fails S ≡ false)
      none = ended_none s S H u o

      at : (e : Option Event) (J : List Act) → Begins r m final K J e → Happens (OutputEnds S) ∷ H ≡ K
      at None J (is, over) = both_not (is_over m.phase) (on_when_read m.phase S aw) over
      at (Some (OutputEnds c)) J x =
          let y : Begins r m final K J (Some (OutputEnds S)) =
          subst (λ (d : Colour). Begins r m final K J (Some (OutputEnds d))) (one_awaits m.phase c S x.1 aw) x in
          ap (λ (L : List Act). Happens (OutputEnds S) ∷ L) (p (after_look S s) J final y.2 (of_end s S H o)
          (of_end s S J (subst (λ (L : List Act). Held w s L) y.0 q))) ∙ sym y.0
      at (Some (Silent c k)) J x = none_or_some s c S k (Happens (OutputEnds S)) J H (one_awaits m.phase c S x.1 aw)
          (own_look S false) (subst (λ (L : List Act). Held w s L) x.0 q) o
      at (Some (Line c u k)) J x = line_not_none s c S u k J (one_awaits m.phase c S x.1 aw)
          (subst (λ (L : List Act). Held w s L) x.0 q) none.0
      at (Some (FailsToRead c)) J x = both_not (s.fails S) none.1 (ap s.fails (one_awaits m.phase S c aw x.1)
          ∙ (failed_none s c J (none_read r _ final _ J x.2 refl) (subst (λ (L : List Act). Held w s L) x.0 q)).1)
      at (Some (Opened c k)) J x = awaits_or_opens m.phase S c aw x.1
      at (Some (FailsToWrite c)) J x = absurd x

  -- the first act is a failed read
  one_fails : (r : Rules) (m : Match) (S : Colour) (H : List Act) → awaits_line m.phase S ≡ true → unread H ≡ true
      → One r (effect r m (FailsToRead S)).after (blocks_from White (effect r m (FailsToRead S)).to) H
      → One r m [] (Happens (FailsToRead S) ∷ H)
  one_fails r m S H aw u p s K final g o q = let (e, J, x) = next r m final K g in at e J x
    where
      none : (s.lines S ≡ []) × (s.fails S ≡ true)
      none = failed_none s S H u o

      at : (e : Option Event) (J : List Act) → Begins r m final K J e → Happens (FailsToRead S) ∷ H ≡ K
      at None J (is, over) = both_not (is_over m.phase) (on_when_read m.phase S aw) over
      at (Some (FailsToRead c)) J x =
          let y : Begins r m final K J (Some (FailsToRead S)) =
          subst (λ (d : Colour). Begins r m final K J (Some (FailsToRead d))) (one_awaits m.phase c S x.1 aw) x in
          ap (λ (L : List Act). Happens (FailsToRead S) ∷ L) (p (after_look S s) J final y.2 (of_failure s S H o)
          (of_failure s S J (subst (λ (L : List Act). Held w s L) y.0 q))) ∙ sym y.0
      at (Some (Silent c k)) J x = none_or_some s c S k (Happens (FailsToRead S)) J H (one_awaits m.phase c S x.1 aw)
          (own_look S false) (subst (λ (L : List Act). Held w s L) x.0 q) o
      at (Some (Line c u k)) J x = line_not_none s c S u k J (one_awaits m.phase c S x.1 aw)
          (subst (λ (L : List Act). Held w s L) x.0 q) none.0
      at (Some (OutputEnds c)) J x = both_not (s.fails S) (ap s.fails (one_awaits m.phase S c aw x.1)
          ∙ (ended_none s c J (none_read r _ final _ J x.2 refl) (subst (λ (L : List Act). Held w s L) x.0 q)).1) none.1
      at (Some (Opened c k)) J x = awaits_or_opens m.phase S c aw x.1
      at (Some (FailsToWrite c)) J x = absurd x

  -- the match is over, and nothing follows
  one_over : (r : Rules) (m : Match) → is_over m.phase ≡ true → One r m [] []
  one_over r m over s K final g o q = let (e, J, x) = next r m final K g in at e J x
    where
      at : (e : Option Event) (J : List Act) → Begins r m final K J e → [] ≡ K
      at None J (is, o) = sym is
      at (Some (Line c u k)) J x = both_not (is_over m.phase) (on_when_read m.phase c x.1) over
      at (Some (Silent c k)) J x = both_not (is_over m.phase) (on_when_read m.phase c x.1) over
      at (Some (Opened c k)) J x = both_not (is_over m.phase) (ap is_over x.1) over
      at (Some (OutputEnds c)) J x = both_not (is_over m.phase) (on_when_read m.phase c x.1) over
      at (Some (FailsToRead c)) J x = both_not (is_over m.phase) (on_when_read m.phase c x.1) over
      at (Some (FailsToWrite c)) J x = absurd x

  -- by induction over the acts of a match
  one_by : (r : Rules) (H : List Act) (final : Match) → IsMatch r H final
      → One r beginning.after (blocks_from White beginning.to) H
  one_by r H final h = (by_cases r final
      (λ m due H. One r m due H × (is_over m.phase ≡ true → unread H ≡ true)) (record {
        sends = λ m end b due H p. (one_sends r m b due H p.0, p.1);
        fails = λ m end b due H on p. (
          one_breaks r m (effect r m (FailsToWrite b.to)).after b due
              (blocks_from White (effect r m (FailsToWrite b.to)).to) H p.0
              (λ c K final g. fails_on r m final b c due K on g),
          λ x. both_not (is_over m.phase) on x,
        );
        fails_late = λ m end b due H over p. (
          one_breaks r m m b due due H p.0 (λ c K final g. fails_over r m final b c due K over g),
          p.1,
        );
        reads = λ m end S t n H aw p. (one_reads r m S t n H aw p.0, awaits m S aw);
        opens = λ m end S n H opening p. (
          one_opens r m S n H opening p.0,
          λ x. both_not (is_over m.phase) (ap is_over opening) x,
        );
        silent = λ m end S n H aw limited p. (one_silent r m S n H aw p.0, awaits m S aw);
        ends = λ m end S H aw p. (one_ends r m S H aw (p.1 refl) p.0, awaits m S aw);
        read_fails = λ m end S H aw p. (one_fails r m S H aw (p.1 refl) p.0, awaits m S aw);
      }) (λ over. (one_over r final over, λ x. refl)) beginning.after (blocks_from White beginning.to) H h).0
    where
      awaits : {A : Type 0} (m : Match) (S : Colour) → awaits_line m.phase S ≡ true → is_over m.phase ≡ true → A
      awaits m S aw over = both_not (is_over m.phase) (on_when_read m.phase S aw) over

  pub only_one_by : (r : Rules) (s : Streams) (H K : List Act) (final final' : Match) → IsMatch r H final
      → IsMatch r K final' → Held w s H → Held w s K → (H ≡ K) × (final ≡ final')
  only_one_by r s H K final final' h k o q =
      let same : H ≡ K = one_by r H final h s K final' k o q in (same, same_end r H K final final' h k same)

-- ---- blocks, each of which counts 1

-- the weight of a block, where each counts 1
abbrev one_each : Block → ℕ
one_each b = 1

-- then what is sent weighs as much as there are blocks
counts : (S : Colour) (H : List Act) → weight_sent one_each S H ≡ length (blocks_sent S H)
counts S [] = refl
counts S (Sends b ∷ H) = at (same_colour b.to S) (counts S H)
  where
    at : (x : Bool) → weight_sent one_each S H ≡ length (blocks_sent S H)
        → (if x then 1 else 0) + weight_sent one_each S H ≡ length (list_if x (b ∷ []) ++ blocks_sent S H)
    at true e = let n : length (b ∷ blocks_sent S H) ≡ length (blocks_sent S H) + 1 = omega arith in omega (arith, e, n)
    at false e = omega (arith, e)
counts S (SendFails b ∷ H) = counts S H
counts S (Happens e ∷ H) = counts S H

all_count : (H : List Act) → Weigh one_each H
all_count [] = tt
all_count (Sends b ∷ H) = (omega arith, all_count H)
all_count (SendFails b ∷ H) = all_count H
all_count (Happens e ∷ H) = all_count H

pub only_one_match : OnlyOneMatch
only_one_match r s H K final final' h k o q =
    only_one_by one_each r s H K final final' h k (held H final h o) (held K final' k q)
  where
    held : (H : List Act) (final : Match) → IsMatch r H final → AreOf s H → Held one_each s H
    held H final h o = (
      o.reads.lines,
      o.reads.ends,
      o.reads.failures,
      o.reads.moments,
      o.reads.silences,
      λ S. (
        λ none. subst (λ (n : ℕ). IfSome (s.breaks S) (λ k. n ≤ k)) (sym (counts S H)) (o.sent S none),
        λ some. o.broken S some ∙ ap Some (sym (counts S H)),
        all_sends_end r H final S h,
      ),
      all_count H,
    )
