-- Induction over the acts of a match: what holds at its end, and before each kind of act if it holds after it (`Acts`),
-- holds of the whole match (`by_cases`). By this: nothing is read after an end or a failed read, which end the match
-- (`all_reads_end`), and nothing is sent to a side after a failed write to it, for which no block is due then
-- (`all_sends_end`).
use Rattle.std.proofs.Common.{◌≡◌, ℕ, Bool, true, false, List, [], ◌∷◌, ◌++◌, refl, ap, sym, ◌∙◌, subst, append-nil, Option, arith, if◌then◌else◌}
use Rattle.std.proofs.lemmas.Bool.{and_parts}
use Rattle.chess_base.specs.{declared.man.Colour.Colour, declared.man.Colour.TheVariants.White, Men.same_colour}
use Rattle.chess_match.specs.Acts.{Act, Block, Sends, SendFails, Happens, IsMatch, IsMatchFrom, awaits_line, is_limited, is_over, blocks_from}
use Rattle.chess_match.specs.{shared.Parts.blocks_after, Lines.SentLine, Rules.Rules}
use Rattle.chess_match.specs.Effects.{Match, Phase, Opening, effect, beginning}
use Rattle.chess_match.specs.Events.{Line, Opened, Silent, OutputEnds, FailsToRead, FailsToWrite}
use Rattle.chess_match.specs.laws.Laws.{has_ended, has_failed_read, lines_read, match_after}

-- `P m due H n` is said of a match `m`, the blocks `due` in it, the acts `H` that come next, and the match `n` after
-- these. For each kind of act: if `P` holds of the match after the act and of the acts after it, it holds with the act
-- as the first of `H`
pub record Acts (r : Rules) (P : Match → List Block → List Act → Match → Type 0) : Type 0 where
  pub sends : (m n : Match) (b : Block) (due : List Block) (H : List Act) → P m due H n → P m (b ∷ due) (Sends b ∷ H) n
  -- a block fails, which ends the match
  pub fails : (m n : Match) (b : Block) (due : List Block) (H : List Act) → is_over m.phase ≡ false
      → P (effect r m (FailsToWrite b.to)).after (blocks_from White (effect r m (FailsToWrite b.to)).to) H n
      → P m (b ∷ due) (SendFails b ∷ H) n
  -- a block fails after the end
  pub fails_late : (m n : Match) (b : Block) (due : List Block) (H : List Act) → is_over m.phase ≡ true → P m due H n
      → P m (b ∷ due) (SendFails b ∷ H) n
  -- a line of S is read
  pub reads : (m n : Match) (S : Colour) (t : Option (List ℕ)) (k : ℕ) (H : List Act) → awaits_line m.phase S ≡ true
      → P (effect r m (Line S t k)).after (blocks_after S (effect r m (Line S t k))) H n
      → P m [] (Happens (Line S t k) ∷ H) n
  pub opens : (m n : Match) (S : Colour) (k : ℕ) (H : List Act) → m.phase ≡ Opening S
      → P (effect r m (Opened S k)).after [] H n → P m [] (Happens (Opened S k) ∷ H) n
  -- a look for a line of S finds none yet
  pub silent : (m n : Match) (S : Colour) (k : ℕ) (H : List Act) → awaits_line m.phase S ≡ true
      → is_limited r.patience m.phase ≡ true
      → P (effect r m (Silent S k)).after (blocks_from White (effect r m (Silent S k)).to) H n
      → P m [] (Happens (Silent S k) ∷ H) n
  pub ends : (m n : Match) (S : Colour) (H : List Act) → awaits_line m.phase S ≡ true
      → P (effect r m (OutputEnds S)).after (blocks_from White (effect r m (OutputEnds S)).to) H n
      → P m [] (Happens (OutputEnds S) ∷ H) n
  pub read_fails : (m n : Match) (S : Colour) (H : List Act) → awaits_line m.phase S ≡ true
      → P (effect r m (FailsToRead S)).after (blocks_from White (effect r m (FailsToRead S)).to) H n
      → P m [] (Happens (FailsToRead S) ∷ H) n

module _ (r : Rules) (P : Match → List Block → List Act → Match → Type 0) (k : Acts r P) (K : List Act) (final : Match)
    (rest : (m : Match) (due : List Block) → IsMatchFrom r m due K final → P m due [] m) where
  -- `P` holds of acts `H` of a match, if it holds where they end (`rest`); the acts `K` come after them
  pub by_acts : (m : Match) (due : List Block) (H : List Act) → IsMatchFrom r m due (H ++ K) final
      → P m due H (match_after r m H)
  by_acts m due [] g = rest m due g
  by_acts m (b ∷ due) (Sends s ∷ H) (q, g) = subst (λ (x : Block). P m (b ∷ due) (Sends x ∷ H) (match_after r m H)) q
      (k.sends m (match_after r m H) b due H (by_acts m due H g))
  by_acts m (b ∷ due) (SendFails s ∷ H) (q, g) = subst (λ (x : Block). P m (b ∷ due) (SendFails x ∷ H)
      (match_after r (if is_over m.phase then m else (effect r m (FailsToWrite x.to)).after) H)) q
      (at (is_over m.phase) refl (λ m' due' h. by_acts m' due' H h)
      (subst (λ (x : Block). let n : Match × List Block = if is_over m.phase then (m, due) else (
        (effect r m (FailsToWrite x.to)).after,
        blocks_from White (effect r m (FailsToWrite x.to)).to,
      ) in IsMatchFrom r n.0 n.1 (H ++ K) final) (sym q) g))
    where
      at : (x : Bool) → is_over m.phase ≡ x
          → ((m' : Match) (due' : List Block) → IsMatchFrom r m' due' (H ++ K) final
          → P m' due' H (match_after r m' H))
          → (let n : Match × List Block = if x then (m, due) else (
            (effect r m (FailsToWrite b.to)).after,
            blocks_from White (effect r m (FailsToWrite b.to)).to,
          ) in IsMatchFrom r n.0 n.1 (H ++ K) final)
          → P m (b ∷ due) (SendFails b ∷ H)
          (match_after r (if x then m else (effect r m (FailsToWrite b.to)).after) H)
      at true o more h = k.fails_late m (match_after r m H) b due H o (more m due h)
      at false o more h = k.fails m (match_after r (effect r m (FailsToWrite b.to)).after H) b due H o
          (more (effect r m (FailsToWrite b.to)).after (blocks_from White (effect r m (FailsToWrite b.to)).to) h)
  by_acts m [] (Happens (Line S t n) ∷ H) (aw, g) =
      k.reads m (match_after r (effect r m (Line S t n)).after H) S t n H aw (by_acts _ _ H g)
  by_acts m [] (Happens (Opened S n) ∷ H) (o, g) =
      k.opens m (match_after r (effect r m (Opened S n)).after H) S n H o (by_acts _ [] H g)
  by_acts m [] (Happens (Silent S n) ∷ H) (aw, g) =
      let parts = and_parts (awaits_line m.phase S) (is_limited r.patience m.phase) aw in
      k.silent m (match_after r (effect r m (Silent S n)).after H) S n H parts.0 parts.1 (by_acts _ _ H g)
  by_acts m [] (Happens (OutputEnds S) ∷ H) (aw, g) =
      k.ends m (match_after r (effect r m (OutputEnds S)).after H) S H aw (by_acts _ _ H g)
  by_acts m [] (Happens (FailsToRead S) ∷ H) (aw, g) =
      k.read_fails m (match_after r (effect r m (FailsToRead S)).after H) S H aw (by_acts _ _ H g)
  by_acts m [] (Happens (FailsToWrite S) ∷ H) (never, g) = absurd never
  by_acts m (b ∷ due) (Happens e ∷ H) g = absurd g
  by_acts m [] (Sends s ∷ H) g = absurd g
  by_acts m [] (SendFails s ∷ H) g = absurd g

-- ---- a whole match

-- what holds at a match's end, and before each kind of act if it holds after it, holds of the rest of a match from any
-- place on
pub by_cases : (r : Rules) (final : Match) (P : Match → List Block → List Act → Type 0)
    → Acts r (λ m due H end. P m due H) → (is_over final.phase ≡ true → P final [] []) → (m : Match) (due : List Block)
    (H : List Act) → IsMatchFrom r m due H final → P m due H
by_cases r final P k over m due H g = by_acts r (λ m due H end. P m due H) k [] final at m due H
    (subst (λ (K : List Act). IsMatchFrom r m due K final) (sym (append-nil H)) g)
  where
    at : (m : Match) (due : List Block) → IsMatchFrom r m due [] final → P m due []
    at m [] (o, e) = subst (λ (x : Match). P x [] []) e (over (ap (λ (x : Match). is_over x.phase) e ∙ o))
    at m (b ∷ due) g = absurd g

-- ---- nothing is read after an end

-- none of these acts looks for a line of an engine
abbrev pub unread : List Act → Bool
unread [] = true
unread (Sends b ∷ H) = unread H
unread (SendFails b ∷ H) = unread H
unread (Happens (Line c t n) ∷ H) = false
unread (Happens (OutputEnds c) ∷ H) = false
unread (Happens (FailsToRead c) ∷ H) = false
unread (Happens (Silent c n) ∷ H) = false
unread (Happens (Opened c n) ∷ H) = unread H
unread (Happens (FailsToWrite c) ∷ H) = unread H

-- acts that read from no engine
pub quiet_read : (S : Colour) (H : List Act) → unread H ≡ true
    → (lines_read S H ≡ []) × (has_ended S H ≡ false) × (has_failed_read S H ≡ false)
quiet_read S [] u = (refl, refl, refl)
quiet_read S (Sends b ∷ H) u = quiet_read S H u
quiet_read S (SendFails b ∷ H) u = quiet_read S H u
quiet_read S (Happens (Opened c n) ∷ H) u = quiet_read S H u
quiet_read S (Happens (FailsToWrite c) ∷ H) u = quiet_read S H u
quiet_read S (Happens (Line c t n) ∷ H) u = absurd cc
quiet_read S (Happens (Silent c n) ∷ H) u = absurd cc
quiet_read S (Happens (OutputEnds c) ∷ H) u = absurd cc
quiet_read S (Happens (FailsToRead c) ∷ H) u = absurd cc

-- after an end or a failed read, nothing is read
abbrev pub reads_end : List Act → Bool
reads_end [] = true
reads_end (Sends b ∷ H) = reads_end H
reads_end (SendFails b ∷ H) = reads_end H
reads_end (Happens (OutputEnds c) ∷ H) = unread H
reads_end (Happens (FailsToRead c) ∷ H) = unread H
reads_end (Happens e ∷ H) = reads_end H

-- a match that waits for a line is not over
pub on_when_read : (p : Phase) (S : Colour) → awaits_line p S ≡ true → is_over p ≡ false
on_when_read p S h1 = grind arith

-- a test doesn't both pass and fail
pub both_not : {P : Type 0} (b : Bool) → b ≡ false → b ≡ true → P
both_not true e h = absurd cc
both_not false e h = absurd cc

-- in a match that is over nothing is read by these acts; and in any nothing is read after an end or a failed read
abbrev Reading : Match → List Block → List Act → Type 0
Reading m due H = (is_over m.phase ≡ true → unread H ≡ true) × (reads_end H ≡ true)

-- so it is with the acts from any place in a match on
reading : (r : Rules) (m final : Match) (due : List Block) (H : List Act) → IsMatchFrom r m due H final
    → Reading m due H
reading r m final due H g = by_cases r final Reading (record {
  sends = λ m end b due H p. p;
  fails = λ m end b due H on p. (λ h. both_not (is_over m.phase) on h, p.1);
  fails_late = λ m end b due H over p. p;
  reads = λ m end S t n H aw p. (λ h. both_not (is_over m.phase) (on_when_read m.phase S aw) h, p.1);
  opens = λ m end S n H o p. (λ h. both_not (is_over m.phase) (ap is_over o) h, p.1);
  silent = λ m end S n H aw limited p. (λ h. both_not (is_over m.phase) (on_when_read m.phase S aw) h, p.1);
  ends = λ m end S H aw p. (λ h. both_not (is_over m.phase) (on_when_read m.phase S aw) h, p.0 refl);
  read_fails = λ m end S H aw p. (λ h. both_not (is_over m.phase) (on_when_read m.phase S aw) h, p.0 refl);
}) (λ o. (λ h. refl, refl)) m due H g

-- from any place in a match on nothing is read after an end or a failed read
pub reading_ends : (r : Rules) (m final : Match) (due : List Block) (H : List Act) → IsMatchFrom r m due H final
    → reads_end H ≡ true
reading_ends r m final due H g = (reading r m final due H g).1

-- nothing is read in a match that is over
pub none_read : (r : Rules) (m final : Match) (due : List Block) (H : List Act) → IsMatchFrom r m due H final
    → is_over m.phase ≡ true → unread H ≡ true
none_read r m final due H g = (reading r m final due H g).0

-- ---- nothing is sent after a failure

-- none of these acts sends to the side `S`
abbrev pub unsent_in : Colour → List Act → Bool
unsent_in S [] = true
unsent_in S (Sends b ∷ H) = if same_colour b.to S then false else unsent_in S H
unsent_in S (SendFails b ∷ H) = if same_colour b.to S then false else unsent_in S H
unsent_in S (Happens e ∷ H) = unsent_in S H

-- after a failed write to the side `S`, nothing is sent to it
abbrev pub sends_end : Colour → List Act → Bool
sends_end S [] = true
sends_end S (Sends b ∷ H) = sends_end S H
sends_end S (SendFails b ∷ H) = if same_colour b.to S then unsent_in S H else sends_end S H
sends_end S (Happens e ∷ H) = sends_end S H

-- none of these blocks is for the side `S`, or at most one
abbrev none_for : Colour → List Block → Bool
none_for S [] = true
none_for S (b ∷ due) = if same_colour b.to S then false else none_for S due

-- at most one of these blocks is for the side `S`
abbrev few_for : Colour → List Block → Bool
few_for S [] = true
few_for S (b ∷ due) = if same_colour b.to S then none_for S due else few_for S due

-- of the blocks that an effect makes due at most one is for each side
few_due : (S first : Colour) (to : Colour → List SentLine) → few_for S (blocks_from first to) ≡ true
few_due S first to = grind arith

-- if the match is over and nothing is due for S, these acts send it nothing; and if at most one block is due for it,
-- they send it nothing after a failed write
abbrev Sending : Colour → Match → List Block → List Act → Type 0
Sending S m due H = (is_over m.phase ≡ true → none_for S due ≡ true → unsent_in S H ≡ true)
    × (few_for S due ≡ true → sends_end S H ≡ true)

-- nothing is due for the side, and nothing is sent to it, but what another act sends
unsent_more : (x : Bool) (due H : Bool) → (if x then false else due) ≡ true → (due ≡ true → H ≡ true)
    → (if x then false else H) ≡ true
unsent_more true due H h f = absurd cc
unsent_more false due H h f = f h

-- if of some blocks at most one is for the side, so it is without the first
few_less : (x none few : Bool) → (if x then none else few) ≡ true → (none ≡ true → few ≡ true) → few ≡ true
few_less true none few h f = f h
few_less false none few h f = h

-- no block for a side is at most one
none_few : (S : Colour) (due : List Block) → none_for S due ≡ true → few_for S due ≡ true
none_few S [] h = refl
none_few S (b ∷ due) h = at (same_colour b.to S) h (none_few S due)
  where
    at : (x : Bool) → (if x then false else none_for S due) ≡ true
        → (none_for S due ≡ true → few_for S due ≡ true)
        → (if x then none_for S due else few_for S due) ≡ true
    at true h more = absurd cc
    at false h more = more h

-- what follows for the acts after a failed block, by whether the block is for the side
ends_more : (x none few rest end : Bool) → (if x then none else few) ≡ true → (none ≡ true → rest ≡ true)
    → (few ≡ true → end ≡ true) → (if x then rest else end) ≡ true
ends_more true none few rest end h f g = f h
ends_more false none few rest end h f g = g h

-- a test that passes in both branches of an `if` passes
chosen_by : (x a b : Bool) → (x ≡ true → a ≡ true) → b ≡ true → (if x then a else b) ≡ true
chosen_by true a b f g = f refl
chosen_by false a b f g = g

-- after a failed write to a side no block is due for it
failed_none : (r : Rules) (m : Match) (c S : Colour) → same_colour c S ≡ true
    → none_for S (blocks_from White (effect r m (FailsToWrite c)).to) ≡ true
failed_none r m c S h1 = grind arith

-- from any place in a match on nothing is sent to S after a failed write to it
pub sending_ends : (r : Rules) (m final : Match) (due : List Block) (H : List Act) (S : Colour)
    → IsMatchFrom r m due H final → few_for S due ≡ true → sends_end S H ≡ true
sending_ends r m final due H S g = (by_cases r final (Sending S) (record {
  sends = λ m end b due H p. (
    λ o n. unsent_more (same_colour b.to S) (none_for S due) (unsent_in S H) n (p.0 o),
    λ f. p.1 (few_less (same_colour b.to S) (none_for S due) (few_for S due) f (none_few S due)),
  );
  fails = λ m end b due H on p. (
    λ o. both_not (is_over m.phase) on o,
    λ f. chosen_by (same_colour b.to S) (unsent_in S H) (sends_end S H)
        (λ h. p.0 refl (failed_none r m b.to S h)) (p.1 (few_due S White (effect r m (FailsToWrite b.to)).to)),
  );
  fails_late = λ m end b due H over p. (
    λ o n. unsent_more (same_colour b.to S) (none_for S due) (unsent_in S H) n (p.0 o),
    λ f. ends_more (same_colour b.to S) (none_for S due) (few_for S due) (unsent_in S H) (sends_end S H) f (p.0 over)
        p.1,
  );
  reads = λ m end c t n H aw p. (
    λ o. both_not (is_over m.phase) (on_when_read m.phase c aw) o,
    λ f. p.1 (few_due S (if is_over (effect r m (Line c t n)).after.phase then White else c)
        (effect r m (Line c t n)).to),
  );
  opens = λ m end c n H opening p. (λ o. both_not (is_over m.phase) (ap is_over opening) o, λ f. p.1 refl);
  silent = λ m end c n H aw limited p. (
    λ o. both_not (is_over m.phase) (on_when_read m.phase c aw) o,
    λ f. p.1 (few_due S White (effect r m (Silent c n)).to),
  );
  ends = λ m end c H aw p. (
    λ o. both_not (is_over m.phase) (on_when_read m.phase c aw) o,
    λ f. p.1 (few_due S White (effect r m (OutputEnds c)).to),
  );
  read_fails = λ m end c H aw p. (
    λ o. both_not (is_over m.phase) (on_when_read m.phase c aw) o,
    λ f. p.1 (few_due S White (effect r m (FailsToRead c)).to),
  );
}) (λ o. (λ h n. refl, λ f. refl)) m due H g).1

-- in a whole match nothing is read after an end or a failed read
pub all_reads_end : (r : Rules) (H : List Act) (final : Match) → IsMatch r H final → reads_end H ≡ true
all_reads_end r H final g = reading_ends r beginning.after final (blocks_from White beginning.to) H g

-- in a whole match nothing is sent to a side after a failed write to it
pub all_sends_end : (r : Rules) (H : List Act) (final : Match) (S : Colour) → IsMatch r H final
    → sends_end S H ≡ true
all_sends_end r H final S g =
    sending_ends r beginning.after final (blocks_from White beginning.to) H S g (few_due S White beginning.to)
