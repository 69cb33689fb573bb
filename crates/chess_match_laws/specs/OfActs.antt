-- Laws of the acts of a match, `H` in order: each sends an engine a block of lines, fails to, or reads an event, such
-- as a line (`Act`). `lines_sent` are the lines that were sent, `lines_given` these and those of blocks that could not
-- be sent.
-- Notes are what a witness, such as the log, is given.
use Rattle.std.specs.Prelude.{◌≡◌, ◌<◌, ◌≤◌, ◌+◌, ◌-◌, ◌*◌, ◌^◌, ◌&&◌, ◌⊎◌, ℕ, Bool, true, false, if◌then◌else◌, List, [], ◌∷◌, ◌++◌, length, drop, take, nat_lt, sum, codes, slice_get, Option, None, Some, is_some, unwrap_or}
use Rattle.std.specs.List.{flat_map, fold, list_any}
use Rattle.std.specs.Option.{IfSome, option_map_or}
use Rattle.byte_devices.specs.Devices.{OutputState}
use Rattle.byte_devices.specs.Transfers.{FromInput, InputGave}
use Rattle.chess_base.specs.declared.man.Colour.{Colour}
use Rattle.chess_base.specs.declared.man.Colour.TheVariants.{White, Black}
use Rattle.chess_base.specs.declared.man.Move.{Move}
use Rattle.chess_base.specs.Men.{other, same_colour}
use Rattle.chess_base.specs.declared.setup.Setup.{Setup as Position}
use Rattle.chess_game.specs.Line.{IsLine, position_after}
use Rattle.chess_game.specs.declared.verdicts.DrawClaim.{DrawClaim}
use Rattle.chess_game.specs.declared.verdicts.Verdict.{Verdict}
use Rattle.cecp_engine.specs.Items.{Item, takes}
use Rattle.cecp_engine.specs.Levels.{LevelSeen, allotted}
use Rattle.chess_base.specs.Options.{list_if}
use Rattle.chess_match.specs.Lines.{bytes_of}
use Rattle.chess_match_laws.specs.Streams.{Streams, AreRead, given_in, lines_noted, moments_noted, is_move, moves_of, items_said, moves_sent, texts_from, time_sent, otim_sent, centiseconds, looks, blocks_sent}
use Rattle.chess_match.specs.laws.Laws.{events_in, lines_read, has_ended, has_failed_read, moments_shown, lines_sent, broken_blocks, is_broken, line_kind, notes_given, match_after, whose_line, lines_given}
use Rattle.chess_match.specs.Acts.{Act, Block, Sends, SendFails, Happens, IsMatch, IsMatchFrom, is_over}
use Rattle.chess_match.specs.Effects.{Match, Phase, BeforeMove, Over, beginning, clock, effect, is_owed_move}
use Rattle.chess_match.specs.Events.{Event, Line, Opened, Silent, FailsToWrite}
use Rattle.chess_match.specs.Notes.{Happened}
use Rattle.chess_match.specs.Played.{World, Passed, PlayedBy}
use Rattle.chess_match.specs.Reasons.{is_write_fault_of}
use Rattle.chess_match.specs.Rules.{Rules, rules_of, has_bare_king}
use Rattle.chess_match.specs.Run.{engine_lines}
use Rattle.chess_match.specs.declared.draws.Draws.{Draws}
use Rattle.chess_match.specs.declared.draws.Draws.TheVariants.{Automatic}
use Rattle.chess_match.specs.declared.patience.Patience.{Patience}
use Rattle.chess_match.specs.Table.{Step, ReadsLine, FindsNoLine, ReadsClock, Notes, watched}
use Rattle.chess_match.specs.declared.reason.MatchFault.{MatchFault}
use Rattle.chess_match.specs.declared.reason.Reason.{Reason}
use Rattle.chess_match.specs.declared.reason.Reason.TheVariants.{Claimed, Decided, Faulted, Forfeits, ForfeitsToBareKing}
use Rattle.chess_match.specs.declared.run.MatchEnd.{MatchEnd}
use Rattle.chess_match.specs.declared.run.Setup.{Setup}
use Rattle.chess_game.specs.Game.{outcome_now}
use Rattle.chess_game.specs.Ends.{claims, draw_claim, verdict}

-- ---- matches and their moments

-- the events of these acts, in order, from the state `m` of a match on: those read, and a write that failed before the
-- end
abbrev pub events_of : Rules → Match → List Act → List Event
events_of r m [] = []
events_of r m (Sends block ∷ H) = events_of r m H
events_of r m (SendFails block ∷ H) =
    let failure = FailsToWrite block.to in
    if is_over m.phase then events_of r m H else failure ∷ events_of r (effect r m failure).after H
events_of r m (Happens event ∷ H) = event ∷ events_of r (effect r m event).after H

-- in every match `P` holds of the rules, all acts and the final state
abbrev pub InEachMatch : (Rules → List Act → Match → Type 0) → Type 0
InEachMatch P = (r : Rules) (H : List Act) (final : Match) → IsMatch r H final → P r H final

-- in every match, after any number of acts, `P` holds of the rules, these acts (`before`) and the state after them
abbrev pub AtEachMoment : (Rules → List Act → Match → Type 0) → Type 0
AtEachMoment P = (r : Rules) (before after : List Act) (final : Match) → IsMatch r (before ++ after) final
    → P r before (match_after r beginning.after before)

-- whenever a line of a side is read, `P` holds of the rules, the side, the acts before and the state then
abbrev pub AtEachLine : (Rules → Colour → List Act → Match → Type 0) → Type 0
AtEachLine P = (r : Rules) (before after : List Act) (S : Colour) (text : Option (List ℕ)) (moment : ℕ) (final : Match)
    → IsMatch r (before ++ Happens (Line S text moment) ∷ after) final
    → P r S before (match_after r beginning.after before)

-- whenever the clock is read after the lines that ask a side for its move, `P` holds of the rules, the side, the acts
-- before and the state then
abbrev pub AtEachOpening : (Rules → Colour → List Act → Match → Type 0) → Type 0
AtEachOpening P = (r : Rules) (before after : List Act) (S : Colour) (moment : ℕ) (final : Match)
    → IsMatch r (before ++ Happens (Opened S moment) ∷ after) final
    → P r S before (match_after r beginning.after before)

-- the state after all acts is the final state
abbrev pub EndsAfterItsActs : Rules → List Act → Match → Type 0
EndsAfterItsActs r H m = match_after r beginning.after H ≡ m

-- ---- order

-- in the steps of any acts (`watched`), a match or not: after a line is read, the next steps are to read the clock for
-- that side and to note the line with the moment that it showed
abbrev pub LinesAreReadInOrder : Type 0
LinesAreReadInOrder = (r : Rules) (reason : Reason) (m : Match) (H : List Act) (before after : List Step) (S : Colour)
    (text : Option (List ℕ)) → watched r reason m H ≡ before ++ ReadsLine S text ∷ after
    → (moment : ℕ) × (rest : List Step)
    × (after ≡ ReadsClock S moment ∷ Notes (Happened (Line S text moment)) ∷ rest)

-- in the steps of any acts: after a look that found no line, the next steps are to read the clock for that side and to
-- note the silence with the moment that it showed
abbrev pub SilencesAreReadInOrder : Type 0
SilencesAreReadInOrder = (r : Rules) (reason : Reason) (m : Match) (H : List Act) (before after : List Step)
    (S : Colour) → watched r reason m H ≡ before ++ FindsNoLine S ∷ after
    → (moment : ℕ) × (rest : List Step)
    × (after ≡ ReadsClock S moment ∷ Notes (Happened (Silent S moment)) ∷ rest)

-- in a match from any state on: if the next act is an event, no block is due to be sent
abbrev pub NothingIsDueAtEvents : Type 0
NothingIsDueAtEvents = (r : Rules) (m final : Match) (due : List Block) (event : Event) (H : List Act)
    → IsMatchFrom r m due (Happens event ∷ H) final → due ≡ []

-- ---- blocks that could not be sent

-- the blocks for the side `S`, in order, sent or not
abbrev pub blocks_given : Colour → List Act → List Block
blocks_given S [] = []
blocks_given S (Sends block ∷ H) = list_if (same_colour block.to S) (block ∷ []) ++ blocks_given S H
blocks_given S (SendFails block ∷ H) = list_if (same_colour block.to S) (block ∷ []) ++ blocks_given S H
blocks_given S (_ ∷ H) = blocks_given S H

-- in every match: after a block that could not be sent the same side has no block, sent or not
abbrev pub FailedBlocksAreLast : Type 0
FailedBlocksAreLast = (r : Rules) (before after : List Act) (block : Block) (final : Match)
    → IsMatch r (before ++ SendFails block ∷ after) final → blocks_given block.to after ≡ []

-- at most one block for each side `S` could not be sent
abbrev pub OneBlockFails : Rules → List Act → Match → Type 0
OneBlockFails r H m = (S : Colour) → length (broken_blocks S H) ≤ 1

-- whether the match has ended because writing to the side `S` failed
abbrev pub ended_by_write_to : Colour → Phase → Bool
ended_by_write_to S (Over reason) = is_write_fault_of reason S
ended_by_write_to S _ = false

-- if the match ended because writing to the side `S` failed, a block for `S` could not be sent
abbrev pub WriteFaultsAreOfBlocks : Rules → List Act → Match → Type 0
WriteFaultsAreOfBlocks r H m = (S : Colour) → ended_by_write_to S m.phase ≡ true → is_broken H S ≡ true

-- ---- engines and a clock fix the match

-- in the acts `H` just those looks for a line were silences (found none yet) of which `silent` says so, by the side and
-- the look's number, from 0 on
abbrev pub AreSilent : (Colour → ℕ → Bool) → List Act → Type 0
AreSilent silent H = (S : Colour) (n : ℕ) → n < length (looks S H) → slice_get (looks S H) n ≡ Some (silent S n)

-- the acts `H` read what these engines and this clock (`s`) give
pub record ReadFrom (s : Streams) (H : List Act) : Type 0 where
  -- `rest` are the lines that were not read
  pub lines : (S : Colour) → (rest : List (Option (List ℕ))) × (s.lines S ≡ lines_read S H ++ rest)
  -- an output that ended gave all its lines
  pub ends : (S : Colour) → has_ended S H ≡ true → (s.lines S ≡ lines_read S H) × (s.fails S ≡ false)
  -- an output of which a read failed gave all its lines, too
  pub failures : (S : Colour) → has_failed_read S H ≡ true → (s.lines S ≡ lines_read S H) × (s.fails S ≡ true)
  pub silences : AreSilent s.silent H
  -- the reading n of the clock shows `s.moments n`
  pub moments : (n : ℕ) → n < length (moments_shown H) → slice_get (moments_shown H) n ≡ Some (s.moments n)

-- the acts `H` read what these engines and this clock (`s`) give, and sending a block failed just where `s.breaks` says
pub record AreOf (s : Streams) (H : List Act) : Type 0 where
  pub reads : ReadFrom s H
  -- if no block for `S` failed, `S` was sent at most as many as `s.breaks` says; `None` sets no limit
  pub sent : (S : Colour) → is_broken H S ≡ false → IfSome (s.breaks S) (λ n. length (blocks_sent S H) ≤ n)
  -- if one failed, `S` had been sent just as many
  pub broken : (S : Colour) → is_broken H S ≡ true → s.breaks S ≡ Some (length (blocks_sent S H))

-- two matches by the same rules, from the same engines and clock (`s`), have the same acts and the same final state
abbrev pub OnlyOneMatch : Type 0
OnlyOneMatch = (r : Rules) (s : Streams) (H K : List Act) (final final' : Match) → IsMatch r H final
    → IsMatch r K final' → AreOf s H → AreOf s K → (H ≡ K) × (final ≡ final')

-- two matches by the same rules that read what the same engines and clock give (`s`), neither of which ended by a
-- failed write, have the same events and the same final state. Which end lines (`result ..`, `quit`) could be sent may
-- differ
abbrev pub OneMatchButForEndLines : Type 0
OneMatchButForEndLines = (r : Rules) (s : Streams) (H K : List Act) (final final' : Match) → IsMatch r H final
    → IsMatch r K final' → ReadFrom s H → ReadFrom s K → ((S : Colour) → ended_by_write_to S final.phase ≡ false)
    → ((S : Colour) → ended_by_write_to S final'.phase ≡ false)
    → (events_of r beginning.after H ≡ events_of r beginning.after K) × (final ≡ final')

-- an engine's input before a run (`w`) and after it (`w'`) shows how many bytes were flushed: those that it took are
-- known, and the count of unflushed ones is below its maximum
pub record ShowsFlushed (w w' : OutputState) : Type 0 where
  pub bytes : is_some w.known_bytes ≡ true
  pub after : w'.unflushed < 2 ^ 64 - 1

-- everything is known about the devices of a run (`w` before it, `w'` after it): each engine's bytes and the clock's
-- times; each failure, since no count of them is at its maximum; and, if a write or flush to an engine failed, how much
-- was flushed before
pub record ShowsAll (w w' : World) : Type 0 where
  pub bytes : (S : Colour) → is_some (w.engines S).input.known_bytes ≡ true
  pub reads : (S : Colour) → (w.engines S).input.failure_count < 2 ^ 64 - 1
  pub writes : (S : Colour) → (w.engines S).output.failure_count < 2 ^ 64 - 1
  pub moments : (n : ℕ) → is_some (w.coming n) ≡ true
  -- no failure was counted, or `ShowsFlushed`
  pub sent : (S : Colour) → ((w'.engines S).output.failure_count ≡ (w.engines S).output.failure_count)
      ⊎ ShowsFlushed (w.engines S).output (w'.engines S).output

-- no limit to waiting: flags fall only with a line, and replies have no limit
abbrev pub endless : Patience
endless = record { flag = false; reply = None }

-- in the acts `H` and `K` the same looks for a line found none yet, or the rules set no limit to waiting (then no act
-- is a silence)
abbrev pub HaveSameSilences : Rules → List Act → List Act → Type 0
HaveSameSilences r H K =
    (r.patience ≡ endless) ⊎ ((silent : Colour → ℕ → Bool) × AreSilent silent H × AreSilent silent K)

-- two matches by the same rules, both played from the world `w` (devices and game) to `w'`, have the same acts and the
-- same final state, if everything is known about the devices, and the same looks for a line found none, or the rules
-- set no limit to waiting
abbrev pub OnlyOneMatchOfARun : Type 0
OnlyOneMatchOfARun = (r : Rules) (H K : List Act) (final final' : Match) (w w' : World) → Passed r H final w w'
    → Passed r K final' w w' → ShowsAll w w' → HaveSameSilences r H K → (H ≡ K) × (final ≡ final')

-- ---- ends

-- where draws are automatic: if a draw may be claimed after the moves of a match, and the board has no verdict, the
-- match ended for this draw, or by a fault before its first move
abbrev pub AutomaticDrawsEndMatches : Type 0
AutomaticDrawsEndMatches = (r : Rules) (claim : DrawClaim) (H : List Act) (final : Match) → IsMatch r H final
    → r.draws ≡ Automatic → verdict r.start final.played ≡ None → draw_claim (claims r.start final.played) ≡ Some claim
    → (final.phase ≡ Over (Claimed claim))
    ⊎ ((final.played ≡ []) × (c : Colour) × (fault : MatchFault) × (final.phase ≡ Over (Faulted c fault)))

-- if a match ended for the verdict `v` of the board, `v` is the verdict after the moves played
abbrev pub DecidedByTheBoard : Type 0
DecidedByTheBoard = (r : Rules) (v : Verdict) (H : List Act) (final : Match) → IsMatch r H final
    → final.phase ≡ Over (Decided v) → verdict r.start final.played ≡ Some v

-- the reported outcome of a match that was played is that of its game
abbrev pub OutcomesAreOfTheGame : Type 0
OutcomesAreOfTheGame = (H : List Act) (reason : Reason) (setup : Setup) (end : MatchEnd) (w w' : World)
    → PlayedBy H reason setup end w w' → end.outcome ≡ outcome_now w'.game.state

-- whether these acts are only blocks, sent or not
abbrev pub only_sends : List Act → Bool
only_sends [] = true
only_sends (Sends block ∷ H) = only_sends H
only_sends (SendFails block ∷ H) = only_sends H
only_sends (_ ∷ H) = false

-- if the side `S` lost a match by a line of its own (`whose_line`), such as an illegal move, the last event is a line
-- of `S`, and after it there are only blocks
abbrev pub LastLineIsTheirs : Type 0
LastLineIsTheirs = (r : Rules) (reason : Reason) (S : Colour) (H : List Act) (final : Match) → IsMatch r H final
    → final.phase ≡ Over reason → whose_line r.patience reason ≡ Some S
    → (before : List Act) × (text : Option (List ℕ)) × (moment : ℕ) × (after : List Act)
    × (H ≡ before ++ Happens (Line S text moment) ∷ after) × (only_sends after ≡ true)

-- ---- moves

-- the moves played are what the two engines' `move` lines after their setups denote in turn, beginning with the side
-- that moves first; at most one `move` line is left over
abbrev pub MovesAreRead : Rules → List Act → Match → Type 0
MovesAreRead r H m =
    AreRead r [] m.played (moves_of (lines_read r.start.side H)) (moves_of (lines_read (other r.start.side) H))

-- the items known of each side's engine are those of its `feature` lines, up to and with the one that has `done=1`
abbrev pub ItemsAreSaid : Rules → List Act → Match → Type 0
ItemsAreSaid r H m = (S : Colour) → (m.seat S).items ≡ items_said (lines_read S H)

-- what the side `O` is to be sent of a game's moves `ms`: the other side's, in SAN if the engine of `O` has `san` on by
-- these items, otherwise by squares
abbrev pub others_moves : Rules → Colour → List Item → List Move → List (List ℕ)
others_moves r O items ms = texts_from r (takes (codes "san") items) (other O) r.start.side [] ms

-- the blocks for each side `O`, also one that could not be sent, have the other side's moves, each once and in order,
-- but for `rest`: at most the last. While the `pong` of the side that made the last move is awaited (`is_owed_move`),
-- no block has that move yet
abbrev pub MovesAreSent : Rules → List Act → Match → Type 0
MovesAreSent r H m = (O : Colour) → (rest : List (List ℕ)) × (length rest ≤ 1)
    × (is_owed_move m.phase O ≡ true → length rest ≡ 1)
    × (moves_sent (lines_given O H) ++ rest ≡ others_moves r O (m.seat O).items m.played)

-- the engines' lines fix the moves that each is sent, but for the last: their `move` lines denote the moves `ms` in
-- turn (at most one line is left over), and the blocks for each side `O`, also one that could not be sent, have the
-- other side's, each once and in order, in SAN or by squares, as its handshake asked for, but for `rest`: at most the
-- last, and nothing of a whole match (`whole`) that did not end because writing to `O` failed
abbrev pub EachIsSentOthersMoves : Bool → Rules → List Act → Match → Type 0
EachIsSentOthersMoves whole r H m =
    (ms : List Move)
    × AreRead r [] ms (moves_of (lines_read r.start.side H)) (moves_of (lines_read (other r.start.side) H))
    × ((O : Colour) → (rest : List (List ℕ)) × (length rest ≤ 1)
    × (whole ≡ true → ended_by_write_to O m.phase ≡ false → rest ≡ [])
    × (moves_sent (lines_given O H) ++ rest ≡ others_moves r O (items_said (lines_read O H)) ms))

-- the blocks for each side `O` have just the other side's moves, in order, unless the match ended because writing to
-- `O` failed
abbrev pub AllMovesAreGiven : Rules → List Act → Match → Type 0
AllMovesAreGiven r H m = (O : Colour) → ended_by_write_to O m.phase ≡ false
    → moves_sent (lines_given O H) ≡ others_moves r O (m.seat O).items m.played

-- if each block for the side `O` was sent, `O` was sent just the other side's moves, in order
abbrev pub AllMovesAreSent : Rules → List Act → Match → Type 0
AllMovesAreSent r H m = (O : Colour) → is_broken H O ≡ false
    → moves_sent (lines_sent O H) ≡ others_moves r O (m.seat O).items m.played

-- the side `S` was sent just the other side's moves, in order
abbrev pub IsSentAllMoves : Rules → Colour → List Act → Match → Type 0
IsSentAllMoves r S H m = moves_sent (lines_sent S H) ≡ others_moves r S (m.seat S).items m.played

-- the side `S` was sent a move if and only if the other side has made one (`used` has a time for each)
abbrev pub MovesSentAreKnown : Rules → Colour → List Act → Match → Type 0
MovesSentAreKnown r S H m =
    nat_lt 0 (length (m.seat (other S)).used) ≡ nat_lt 0 (length (moves_sent (lines_sent S H)))

-- each move of a match is legal in the position in which it is made, from the start on
abbrev pub GamesAreLines : Type 0
GamesAreLines = (start : Position) (level : Colour → LevelSeen) (patience : Patience) (draws : Draws) (limit : ℕ) (H : List Act)
    (final : Match) → IsMatch (rules_of start level patience draws limit) H final → IsLine start final.played

-- the match has no more half-moves than the limit, none after a verdict of the board, and where draws are automatic
-- none once a draw may be claimed
abbrev pub EndsAtVerdicts : Rules → List Act → Match → Type 0
EndsAtVerdicts r H m = (length m.played ≤ r.limit)
    × ((k : ℕ) → k < length m.played → verdict r.start (take k m.played) ≡ None)
    × (r.draws ≡ Automatic → (k : ℕ) → k < length m.played → draw_claim (claims r.start (take k m.played)) ≡ None)

-- ---- clocks

-- the `time` lines in the blocks for each side `S`, also in one that could not be sent, show its own clock before its
-- first move and after each of its moves, in order, but for `rest`: at most the last; none with `time=0`
abbrev pub TimesAreClocks : Rules → List Act → Match → Type 0
TimesAreClocks r H m = (S : Colour) → (rest : List ℕ) × (length rest ≤ 1)
    × (flat_map time_sent (lines_given S H) ++ rest
    ≡ (if takes (codes "time") (m.seat S).items then centiseconds (r.level S) 0 0 (m.seat S).used else []))

-- the `otim` lines in the blocks for each side `S`, also in one that could not be sent, show the other's clock after
-- each of the other's moves, in order, and before the first of them if `S` moves first, but for `rest`: at most the
-- last; none with `time=0`
abbrev pub OtherTimesAreClocks : Rules → List Act → Match → Type 0
OtherTimesAreClocks r H m = (S : Colour) → (rest : List ℕ) × (length rest ≤ 1)
    × (flat_map otim_sent (lines_given S H) ++ rest
    ≡ (if takes (codes "time") (m.seat S).items
    then (if same_colour S r.start.side
    then centiseconds (r.level (other S)) 0 0 (m.seat (other S)).used
    else drop 1 (centiseconds (r.level (other S)) 0 0 (m.seat (other S)).used))
    else []))

-- the milliseconds in these acts from the opening of each turn of the side `S` to its first `move` line after that (0
-- if the clock went back). `opened` is when the present turn of `S` was opened before them; `None` if no move of `S` is
-- awaited
abbrev pub move_times : Colour → Option ℕ → List Act → List ℕ
move_times S opened [] = []
move_times S opened (Happens (Line side text moment) ∷ H) =
    if is_some opened && (same_colour side S && is_move (line_kind text))
    then (moment - unwrap_or opened 0) ∷ move_times S None H
    else move_times S opened H
move_times S opened (Happens (Opened side moment) ∷ H) =
    move_times S (if same_colour side S then Some moment else None) H
move_times S opened (_ ∷ H) = move_times S opened H

-- the times charged to each side `S` are those from the opening of each of its turns to its `move` line, but for
-- `rest`: at most the last, if that line ended the match
abbrev pub UsedTimesAreDifferences : Rules → List Act → Match → Type 0
UsedTimesAreDifferences r H m = (S : Colour) → (rest : List ℕ) × (length rest ≤ 1)
    × (move_times S None H ≡ (m.seat S).used ++ rest) × (is_over m.phase ≡ false → rest ≡ [])

-- what each side `S` has left and its moves took is together what it was given so far: its clock never goes below 0
abbrev pub ClocksDoNotUnderflow : Rules → List Act → Match → Type 0
ClocksDoNotUnderflow r H m =
    (S : Colour) → clock r m S + sum (m.seat S).used ≡ allotted (r.level S) (length (m.seat S).used)

-- ---- silences

-- whether this act is a silence: a look for a line, of either side, that found none yet
abbrev pub is_silent : Act → Bool
is_silent (Happens (Silent side moment)) = true
is_silent _ = false

-- in every match by rules that set no limit to waiting no act is a silence, and no look for a line found none
abbrev pub SilencesAreAskedFor : Type 0
SilencesAreAskedFor = (r : Rules) (H : List Act) (final : Match) → IsMatch r H final → r.patience ≡ endless
    → (list_any is_silent H ≡ false) × AreSilent (λ S n. false) H

-- whether the side `S`, whose line is awaited in the match `m`, in this phase, is beyond its limit at this moment:
-- before its move, if more time had passed since the opening of its turn than it had left; otherwise, if it owed its
-- line for longer than the rules allow
abbrev pub is_beyond : Rules → Match → Phase → Colour → ℕ → Bool
is_beyond r m (BeforeMove side opened) S moment = nat_lt (clock r m S) (moment - opened)
is_beyond r m _ S moment =
    option_map_or (λ limit. nat_lt limit (moment - unwrap_or m.since moment)) r.patience.reply false

-- in every match: after a silence of the side `S` the match is over if and only if `S` was beyond its limit then
abbrev pub SilencesEndMatches : Type 0
SilencesEndMatches = (r : Rules) (before after : List Act) (S : Colour) (moment : ℕ) (final : Match)
    → IsMatch r (before ++ Happens (Silent S moment) ∷ after) final
    → let m = match_after r beginning.after before in
    is_over (effect r m (Silent S moment)).after.phase ≡ is_beyond r m m.phase S moment

-- in every match: a silence of the side `S` within its limit changed nothing, and no line was sent, if the time for a
-- reply ran already (`since`)
abbrev pub SilencesChangeNothing : Type 0
SilencesChangeNothing = (r : Rules) (before after : List Act) (S : Colour) (moment : ℕ) (final : Match)
    → IsMatch r (before ++ Happens (Silent S moment) ∷ after) final
    → let m = match_after r beginning.after before in
    is_beyond r m m.phase S moment ≡ false → is_some m.since ≡ true
    → ((effect r m (Silent S moment)).after ≡ m) × ((X : Colour) → (effect r m (Silent S moment)).to X ≡ [])

-- if a match that was played ended by a silence of the side `S`, all lines in the bytes that were read from its engine
-- (`i.text`) were read in the match
abbrev pub SilencesLeaveNoLine : Type 0
SilencesLeaveNoLine = (before after : List Act) (S : Colour) (moment : ℕ) (reason : Reason) (setup : Setup)
    (end : MatchEnd) (w w' : World) → let H = before ++ Happens (Silent S moment) ∷ after in
    PlayedBy H reason setup end w w' → only_sends after ≡ true
    → (i : FromInput) × InputGave (w.engines S).input (w'.engines S).input i × (engine_lines i.text ≡ lines_read S H)

-- whether this act shows the flag of the side `S` fallen, in a match that is `m`, in this phase, before it: before the
-- move of `S` a line came, or none yet, and since the opening of its turn more time had passed than `S` had left
abbrev pub shows_fallen : Rules → Match → Phase → Colour → Act → Bool
shows_fallen r m (BeforeMove side opened) S (Happens (Line c text moment)) =
    same_colour side S && nat_lt (clock r m S) (moment - opened)
shows_fallen r m (BeforeMove side opened) S (Happens (Silent c moment)) =
    same_colour side S && nat_lt (clock r m S) (moment - opened)
shows_fallen r m _ S _ = false

-- at some moment the flag of the side `S` had fallen (`shows_fallen`)
abbrev pub OverstepsTime : Rules → List Act → Colour → Type 0
OverstepsTime r H S = (before : List Act) × (act : Act) × (after : List Act) × (H ≡ before ++ act ∷ after)
    × (let m = match_after r beginning.after before in shows_fallen r m m.phase S act ≡ true)

-- the last event of `H` showed the flag of the side `S` fallen (`shows_fallen`); after it there are only blocks, sent
-- or not
abbrev pub EndsOverstepped : Rules → List Act → Colour → Type 0
EndsOverstepped r H S = (before : List Act) × (act : Act) × (after : List Act) × (H ≡ before ++ act ∷ after)
    × (only_sends after ≡ true)
    × (let m = match_after r beginning.after before in shows_fallen r m m.phase S act ≡ true)

-- a match of the acts `H`, which ended in the state `final`, ended on time exactly if a side overstepped its time
pub record TimeForfeitsAreShown (r : Rules) (H : List Act) (final : Match) : Type 0 where
  -- a side that oversteps its time loses, or draws against a bare king
  pub overstepped : (S : Colour) → OverstepsTime r H S
      → final.phase ≡ Over (if has_bare_king (other S) (position_after r.start final.played).men then ForfeitsToBareKing
      else Forfeits S)
  -- a side that lost on time overstepped it, which ended the match
  pub lost : (S : Colour) → final.phase ≡ Over (Forfeits S) → EndsOverstepped r H S
  -- in a draw against a bare king a side overstepped its time, which ended the match
  pub drawn : final.phase ≡ Over ForfeitsToBareKing → (S : Colour) × EndsOverstepped r H S

-- ---- few lines

-- at most this many lines are read of both engines together: 1,000 in each of two handshakes, 10,000 in each of two
-- setups, and in each of `limit` + 1 turns 9,999 ignored ones, an offer of a draw, the move and the `pong`
abbrev pub LinesAreFew : Rules → List Act → Match → Type 0
LinesAreFew r H m = length (lines_read White H) + length (lines_read Black H) ≤ 22000 + 10002 * (r.limit + 1)

-- ---- notes

-- the match after these events, if it is `m` before them
abbrev pub after_events : Rules → Match → List Event → Match
after_events r m events = fold (λ n e. (effect r n e).after) m events

-- if a match ended for this reason, the events in its notes lead from the beginning to the final state
abbrev pub NotesHaveTheEvents : Type 0
NotesHaveTheEvents = (r : Rules) (reason : Reason) (H : List Act) (final : Match) → IsMatch r H final
    → final.phase ≡ Over reason → final ≡ after_events r beginning.after (events_in (notes_given reason H))

-- if a match ended for this reason, the events in its notes are just its events, in order
abbrev pub NotesAreInOrder : Type 0
NotesAreInOrder = (r : Rules) (reason : Reason) (H : List Act) (final : Match) → IsMatch r H final
    → final.phase ≡ Over reason → events_in (notes_given reason H) ≡ events_of r beginning.after H

-- in the notes of any acts the bytes for the side `S` are those of all lines of its blocks, in order
abbrev pub NotesHaveAllLines : Type 0
NotesHaveAllLines = (reason : Reason) (H : List Act) (S : Colour)
    → given_in S (notes_given reason H) ≡ bytes_of (lines_given S H)

-- in the notes of a match the lines of the side `S` are just those that were read of it, in order
abbrev pub NotesHaveLinesRead : Type 0
NotesHaveLinesRead = (r : Rules) (reason : Reason) (H : List Act) (final : Match) (S : Colour) → IsMatch r H final
    → lines_noted S (notes_given reason H) ≡ lines_read S H

-- in the notes of any acts the moments are just those that the clock showed, in order
abbrev pub NotesHaveMoments : Type 0
NotesHaveMoments = (reason : Reason) (H : List Act) → moments_noted (notes_given reason H) ≡ moments_shown H
