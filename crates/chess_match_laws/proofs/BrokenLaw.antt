-- After a block that could not be sent to a side there is no block for it, sent or not (failed_blocks_are_last; by
-- MatchCases.all_sends_end of chess_match), so at most one block for each side fails (one_block_fails). And if a failed
-- write to a side ended a match, a block for it failed (write_faults_are_of_blocks; by MoveLaw.written).
use Rattle.std.proofs.Common.{◌≡◌, ◌≤◌, Bool, true, false, List, [], ◌∷◌, ◌++◌, length, refl, ap, arith, if◌then◌else◌}
use Rattle.chess_base.specs.{declared.man.Colour.Colour, Men.same_colour, Options.list_if}
use Rattle.chess_base.proofs.shared.Men.{same_colour-self}
use Rattle.chess_match.specs.Acts.{Act, Block, Sends, SendFails, Happens}
use Rattle.chess_match.specs.{Lines.SentLine, laws.Laws.broken_blocks, laws.Laws.is_broken}
use Rattle.chess_match_laws.specs.OfActs.{FailedBlocksAreLast, InEachMatch, OneBlockFails, WriteFaultsAreOfBlocks, blocks_given, ended_by_write_to}
use Rattle.chess_match.proofs.shared.MatchCases.{all_sends_end, both_not, sends_end, unsent_in}
use Rattle.chess_match_laws.proofs.{MoveLaw.written, OneLaw.not_to, OneLaw.silent_unbroken}

-- acts that send nothing to S (`unsent_in`) have no block for S
none_given : (S : Colour) (H : List Act) → unsent_in S H ≡ true → blocks_given S H ≡ []
none_given S [] u = refl
none_given S (Sends b ∷ H) u =
    let (other, more) = not_to (same_colour b.to S) (unsent_in S H) u in rw other (none_given S H more)
none_given S (SendFails b ∷ H) u =
    let (other, more) = not_to (same_colour b.to S) (unsent_in S H) u in rw other (none_given S H more)
none_given S (Happens e ∷ H) u = none_given S H u

-- if some acts send nothing to S, neither do the later ones of them
unsent_later : (S : Colour) (before after : List Act) → unsent_in S (before ++ after) ≡ true → unsent_in S after ≡ true
unsent_later S [] after u = u
unsent_later S (Sends b ∷ before) after u =
    unsent_later S before after (not_to (same_colour b.to S) (unsent_in S (before ++ after)) u).1
unsent_later S (SendFails b ∷ before) after u =
    unsent_later S before after (not_to (same_colour b.to S) (unsent_in S (before ++ after)) u).1
unsent_later S (Happens e ∷ before) after u = unsent_later S before after u

-- the first branch of an `if`, where its test passes
chosen : (x a b : Bool) → x ≡ true → (if x then a else b) ≡ true → a ≡ true
chosen true a b e h = h
chosen false a b e h = absurd cc

-- after a failed block for S nothing is sent to S
unsent_after : (S : Colour) (before after : List Act) (b : Block) → same_colour b.to S ≡ true
    → sends_end S (before ++ SendFails b ∷ after) ≡ true → unsent_in S after ≡ true
unsent_after S [] after b e h = chosen (same_colour b.to S) (unsent_in S after) (sends_end S after) e h
unsent_after S (Sends c ∷ before) after b e h = unsent_after S before after b e h
unsent_after S (SendFails c ∷ before) after b e h = at (same_colour c.to S) h (unsent_after S before after b e)
  where
    at : (x : Bool) → (if x then unsent_in S (before ++ SendFails b ∷ after)
        else sends_end S (before ++ SendFails b ∷ after)) ≡ true
        → (sends_end S (before ++ SendFails b ∷ after) ≡ true → unsent_in S after ≡ true) → unsent_in S after ≡ true
    at true h more = (not_to (same_colour b.to S) (unsent_in S after) (unsent_later S before (SendFails b ∷ after) h)).1
    at false h more = more h
unsent_after S (Happens d ∷ before) after b e h = unsent_after S before after b e h

pub failed_blocks_are_last : FailedBlocksAreLast
failed_blocks_are_last r before after b final g = none_given b.to after
    (unsent_after b.to before after b (same_colour-self b.to)
    (all_sends_end r (before ++ SendFails b ∷ after) final b.to g))

-- if nothing is sent to S after a failed block, at most one block for S fails
one_broken : (S : Colour) (H : List Act) → sends_end S H ≡ true → length (broken_blocks S H) ≤ 1
one_broken S [] h = omega arith
one_broken S (Sends b ∷ H) h = one_broken S H h
one_broken S (SendFails b ∷ H) h = at (same_colour b.to S) h (one_broken S H)
  where
    at : (x : Bool) → (if x then unsent_in S H else sends_end S H) ≡ true
        → (sends_end S H ≡ true → length (broken_blocks S H) ≤ 1)
        → length (list_if x (b.lines ∷ []) ++ broken_blocks S H) ≤ 1
    at true h more =
        let e : length (b.lines ∷ broken_blocks S H) ≡ 1 =
        ap (λ (l : List (List SentLine)). length (b.lines ∷ l)) (silent_unbroken S H h) in omega (arith, e)
    at false h more = more h
one_broken S (Happens e ∷ H) h = one_broken S H h

pub one_block_fails : InEachMatch OneBlockFails
one_block_fails r H final g S = one_broken S H (all_sends_end r H final S g)

pub write_faults_are_of_blocks : InEachMatch WriteFaultsAreOfBlocks
write_faults_are_of_blocks r H final g S h = at (is_broken H S) refl
  where
    at : (x : Bool) → is_broken H S ≡ x → is_broken H S ≡ true
    at true e = e
    at false e = both_not (ended_by_write_to S final.phase) (written r S H final g e) h
