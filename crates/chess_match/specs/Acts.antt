-- The arbiter's acts at its devices, and which lists of acts (`H`, in order) are a match.
use Rattle.std.specs.Prelude.{◌≡◌, ◌&&◌, ℕ, ◌+◌, ◌-◌, ◌^◌, Bool, true, false, if◌then◌else◌, min, is_some, option_map, List, [], ◌∷◌, ◌++◌, Option, None, Some}
use Rattle.std.specs.Option.{option_map_or}
use Rattle.chess_base.specs.declared.man.Colour.{Colour}
use Rattle.chess_base.specs.declared.man.Colour.TheVariants.{White}
use Rattle.chess_base.specs.Men.{other, same_colour}
use Rattle.chess_match.specs.Events.{Event, Line, Opened, Silent, OutputEnds, FailsToRead, FailsToWrite}
use Rattle.chess_match.specs.Rules.{Rules}
use Rattle.chess_match.specs.Lines.{SentLine}
use Rattle.chess_match.specs.declared.patience.Patience.{Patience}
use Rattle.chess_match.specs.Effects.{Match, Phase, Handshake, Setup, Opening, BeforeMove, AfterMove, Over, Effect, clock, effect, beginning}

-- all lines that the engine of the side `to` is to be sent at one event, or when the match begins
pub record Block : Type 0 where
  pub to : Colour
  pub lines : List SentLine

-- one act of the arbiter
pub data Act : Type 0 where
  -- a block was written and flushed
  Sends : (block : Block) → Act
  -- a write or flush of this block failed; nothing, a beginning or all of it may have been written
  SendFails : (block : Block) → Act
  -- an event was read: a line or a silence, and right after it the clock; only the clock (`Opened`); the end of an
  -- engine's output (bytes after its last `\n` are no line); or a failure to read
  Happens : (event : Event) → Act

-- ---- what is due

-- the block of these lines for this side; without lines an empty list
abbrev pub block_of : Colour → List SentLine → List Block
block_of S [] = []
block_of S (l ∷ ls) = record { to = S; lines = l ∷ ls } ∷ []

-- the blocks that send each side `S` the lines `lines S`, first to the side `first`
abbrev pub blocks_from : Colour → (Colour → List SentLine) → List Block
blocks_from first lines = block_of first (lines first) ++ block_of (other first) (lines (other first))

-- ---- what may come next

-- whether this phase awaits a line of the side `S`
abbrev pub awaits_line : Phase → Colour → Bool
awaits_line (Handshake side) S = same_colour side S
awaits_line (Setup side) S = same_colour side S
awaits_line (BeforeMove side opened) S = same_colour side S
awaits_line (AfterMove side) S = same_colour side S
awaits_line _ S = false

-- whether a wait for a line in this phase has a limit: before a move, if a flag falls without a line (`patience.flag`);
-- otherwise, if replies have a limit (`patience.reply`)
abbrev pub is_limited : Patience → Phase → Bool
is_limited patience (BeforeMove side opened) = patience.flag
is_limited patience _ = is_some patience.reply

-- the first moment more than `limit` milliseconds after `since`, but no later than the last moment, 2 ^ 64 - 1
abbrev pub first_beyond : ℕ → ℕ → ℕ
first_beyond since limit = min (since + limit + 1) (2 ^ 64 - 1)

-- the moment until which the match `m`, in this phase, waits for a line; `None`: as long as it takes
abbrev pub waits_until : Rules → Phase → Match → Option ℕ
-- before a move, if flags fall without a line: until this side has used more time than it had left
waits_until r (BeforeMove side opened) m =
    if r.patience.flag then Some (first_beyond opened (clock r m side)) else None
-- otherwise, if replies have a limit: until the reply has been owed for longer than it; the moment 0, so that a look
-- doesn't wait, while the reply's time doesn't run (`since` is `None`)
waits_until r _ m = option_map (λ limit. option_map_or (λ since. first_beyond since limit) m.since 0) r.patience.reply

-- this event may come in this phase. A failed write never does: it is an act `SendFails`
abbrev pub MayCome : Patience → Phase → Event → Type 0
MayCome patience phase (Line S text moment) = awaits_line phase S ≡ true
-- a silence comes only where the wait for a line has a limit
MayCome patience phase (Silent S moment) = (awaits_line phase S && is_limited patience phase) ≡ true
MayCome patience phase (OutputEnds S) = awaits_line phase S ≡ true
MayCome patience phase (FailsToRead S) = awaits_line phase S ≡ true
-- the clock is read once an opening's lines are sent
MayCome patience phase (Opened S moment) = phase ≡ Opening S
MayCome patience phase (FailsToWrite S) = ⊥

-- whether the match has ended
abbrev pub is_over : Phase → Bool
is_over (Over reason) = true
is_over _ = false

-- the blocks due after this event with the effect `done`: first White's, but after a line that doesn't end the match,
-- first the one for its sender
abbrev pub due_after : Event → Effect → List Block
due_after (Line S text moment) done = blocks_from (if is_over done.after.phase then White else S) done.to
due_after event done = blocks_from White done.to

-- the match, and the blocks then due, when a block for this side could not be sent in the match `m`; `due` are the
-- blocks after it. If `m` was over, these are still due; otherwise the failure ends it, and due is only what `ends`
-- sends the other side
abbrev pub after_failed_send : Rules → Match → List Block → Colour → Match × List Block
after_failed_send r m due side = let done = effect r m (FailsToWrite side) in
    if is_over m.phase then (m, due) else (done.after, blocks_from White done.to)

-- these acts are the rest of a match by the rules `r`, now `m` with the blocks `due` still to be sent, and `final` at
-- its end. While a block is due, nothing is read
abbrev pub IsMatchFrom : Rules → Match → List Block → List Act → Match → Type 0
-- the first block due is sent
IsMatchFrom r m (block ∷ due) (Sends sent ∷ H) final = (block ≡ sent) × IsMatchFrom r m due H final
-- sending the first block due fails
IsMatchFrom r m (block ∷ due) (SendFails sent ∷ H) final =
    let next = after_failed_send r m due sent.to in (block ≡ sent) × IsMatchFrom r next.0 next.1 H final
-- no block is due: an event that may come in this phase happens
IsMatchFrom r m [] (Happens event ∷ H) final = let done = effect r m event in
    MayCome r.patience m.phase event × IsMatchFrom r done.after (due_after event done) H final
-- no act is left: no block is due, and the match is over
IsMatchFrom r m [] [] final = (is_over m.phase ≡ true) × (final ≡ m)
-- nothing else may happen
IsMatchFrom r m due H final = ⊥

-- these acts are a whole match by the rules `r`, which is `final` at its end
abbrev pub IsMatch : Rules → List Act → Match → Type 0
IsMatch r H final = IsMatchFrom r beginning.after (blocks_from White beginning.to) H final
