-- What each event does: the match after it, and the lines that each side is then sent. A definition `.._row` is the
-- effect of certain lines or silences.
use Rattle.std.specs.Prelude.{ℕ, ◌+◌, ◌-◌, ◌/◌, ◌==◌, ◌&&◌, nat_le, nat_lt, Bool, true, false, not, if◌then◌else◌, List, [], ◌∷◌, ◌++◌, length, codes, sum, Option, None, Some, is_some, option_map, unwrap_or, map}
use Rattle.std.specs.List.{list_any}
use Rattle.std.specs.Option.{option_map_or, option_or}
use Rattle.chess_base.specs.declared.man.Colour.{Colour}
use Rattle.chess_base.specs.declared.man.Colour.TheVariants.{White, Black}
use Rattle.chess_base.specs.declared.man.Move.{Move}
use Rattle.chess_base.specs.Men.{other, same_colour}
use Rattle.chess_game.specs.Ends.{result_text, verdict, claims, draw_claim}
use Rattle.cecp_engine.specs.EngineLines.{LineKind, Features, Moves, Resigns, OffersDraw, ClaimsDraw, ClaimsWin, Rejects, Answers, SaysElse, kind_of}
use Rattle.cecp_engine.specs.Items.{Item, items_of, ends_handshake, takes, plays_fischerandom, is_known}
use Rattle.cecp_engine.specs.Levels.{allotted}
use Rattle.chess_match.specs.Events.{Event, Line, Opened, Silent, OutputEnds, FailsToRead, FailsToWrite, Seat}
use Rattle.chess_match.specs.Reasons.{reported_reason, result_of}
use Rattle.chess_match.specs.Rules.{Rules, text_of_last, start_fen, has_bare_king}
use Rattle.chess_text.specs.San.{is_fischerandom}
use Rattle.chess_text.specs.declared.reading.Reading.{Reading}
use Rattle.chess_text.specs.declared.reading.Reading.TheVariants as reads
use Rattle.chess_base.specs.Options.{list_if}
use Rattle.chess_match.specs.Lines.{SentLine, Says, MoveSent, Time, Otim, setup_lines, ping}
use Rattle.chess_match.specs.Reasons.{is_write_fault_of}
use Rattle.chess_game.specs.declared.verdicts.DrawClaim.{DrawClaim}
use Rattle.chess_match.specs.declared.draws.Draws.{Draws}
use Rattle.chess_match.specs.declared.draws.Draws.TheVariants.{Automatic}
use Rattle.chess_match.specs.declared.reason.MatchFault.{MatchFault}
use Rattle.chess_match.specs.declared.reason.MatchFault.TheVariants.{Ended, Read, Write, NoDone, NoPing, NoSetboard, Flood, NoVariant, NoHandshake, NoAnswer}
use Rattle.chess_match.specs.declared.reason.Reason.{Reason}
use Rattle.chess_match.specs.declared.reason.Reason.TheVariants.{Decided, Claimed, Agreed, MovesIllegally, MovesOutOfTurn, ClaimsFalsely, RejectsLegalMove, Forfeits, ForfeitsToBareKing, GameTooLong, Faulted}
use Rattle.chess_match.specs.declared.reason.Reason.TheVariants as over_by
use Rattle.chess_game.specs.Line.{position_after}
use Rattle.chess_text.specs.Moves.{reading}

-- ---- the state of a match

-- what a match waits for
pub data Phase : Type 0 where
  -- that side's handshake, up to the line with `done=1`
  Handshake : (side : Colour) → Phase
  -- that side's `pong 1`, which ends its setup
  Setup : (side : Colour) → Phase
  -- a reading of the clock, once the lines that open that side's turn are sent
  Opening : (side : Colour) → Phase
  -- that side's move; its time runs from `opened`, in milliseconds by the clock
  BeforeMove : (side : Colour) → (opened : ℕ) → Phase
  -- that side's `pong` after its move; only then the other side is sent the move
  AfterMove : (side : Colour) → Phase
  -- nothing: the match has ended for this reason
  Over : (reason : Reason) → Phase

-- the state of a match
pub record Match : Type 0 where
  pub phase : Phase
  -- what is known of each side's engine
  pub seat : Colour → Seat
  -- the moves so far
  pub played : List Move
  -- how many lines came in the present handshake, or were ignored in the present setup or turn; meaningless at the end
  pub count : ℕ
  -- the moment from which the time for a reply runs. These lines restart it: in a handshake `feature`, in a setup
  -- `pong 1`, in a turn any up to the move. Before the first of them it is the first silence's moment; `None` before
  -- both
  pub since : Option ℕ

-- the match after an event, and the lines that each side is then sent (`to`)
pub record Effect : Type 0 where
  pub after : Match
  pub to : Colour → List SentLine

-- ---- what is asked of a match

-- the milliseconds that the side `S` has left, at least 0; a move's time is taken off once it is made
abbrev pub clock : Rules → Match → Colour → ℕ
clock r m S = allotted (r.level S) (length (m.seat S).used) - sum (m.seat S).used

-- the number of the latest `ping` for the side `S`: n + 1 after its n-th move; 1 in its setup
abbrev pub ping_number : Match → Colour → ℕ
ping_number m S = length (m.seat S).used + 1

-- what an engine with these items lacks first, if anything: `ping=1`; `setboard=1`, if a FEN is to be sent; in Chess960
-- `fischerandom` in its item `variants`, if it sent one
abbrev pub missing : Rules → List Item → Option MatchFault
missing r items = if not (takes (codes "ping") items) then Some NoPing
    else if is_some (start_fen r.start) && not (takes (codes "setboard") items) then Some NoSetboard
    else if is_fischerandom r.start.variant && not (plays_fischerandom items) then Some NoVariant
    else None

-- the draw that may be claimed (`claim`), if draws end a match without being claimed; otherwise `None`
abbrev pub if_automatic : Draws → Option DrawClaim → Option DrawClaim
if_automatic Automatic claim = claim
if_automatic _ claim = None

-- why the position after the moves `ms` ends a match, if it does: the board's verdict; otherwise, if draws are
-- automatic, a draw by threefold repetition or 50 moves
abbrev pub over_by_position : Rules → List Move → Option Reason
over_by_position r ms = option_or (option_map (λ v. Decided v) (verdict r.start ms))
    (option_map (λ claim. Claimed claim) (if_automatic r.draws (draw_claim (claims r.start ms))))

-- whether the side `S` is not yet sent the last move: the other side made it, and that side's turn continues
abbrev pub is_owed_move : Phase → Colour → Bool
is_owed_move (AfterMove side) S = same_colour (other side) S
is_owed_move _ S = false

-- ---- lines

-- the lines that begin a handshake
abbrev pub handshake_lines : List SentLine
handshake_lines = Says (codes "xboard") ∷ Says (codes "protover 2") ∷ []

-- the line that sends the side `S` the last move, by its features `usermove` and `san`: `e2e4`, `usermove e2e4`, `e4`
-- or `usermove e4`
abbrev pub move_line : Rules → Match → Colour → SentLine
move_line r m S = MoveSent (takes (codes "usermove") (m.seat S).items)
    (text_of_last (takes (codes "san") (m.seat S).items) r.start m.played)

-- the lines that open a turn of the side `S`: in its first turn the last move, if any, the clocks and `go`; later the
-- clocks and the last move. The clocks (`S`'s first; in centiseconds, rounded down) are omitted if its feature `time`
-- is off
abbrev pub opening : Rules → Match → Colour → List SentLine
opening r m S = let last = list_if (nat_lt 0 (length m.played)) (move_line r m S ∷ []) in
    let times = Time (clock r m S / 10) ∷ Otim (clock r m (other S) / 10) ∷ [] in
    let clocks = list_if (takes (codes "time") (m.seat S).items) times in
    if nat_lt 0 (length (m.seat S).used) then clocks ++ last else last ++ (clocks ++ Says (codes "go") ∷ [])

-- ---- the effects of which rows are made

-- the match becomes `m`, and no line is sent
abbrev pub sends_nothing : Match → Effect
sends_nothing m = record { after = m; to = λ S. [] }

-- the match becomes `m`, and only this side is sent these lines
abbrev pub sends_to : Colour → List SentLine → Match → Effect
sends_to side lines m = record { after = m; to = λ S. list_if (same_colour side S) lines }

-- the match `m`, with `change` applied to the seat of the side `S`
abbrev pub with_seat : Colour → (Seat → Seat) → Match → Match
with_seat S change m = record m { seat = λ side. if same_colour side S then change (m.seat side) else m.seat side }

-- the match `m` ends for this reason. Each side is sent the last move, if `is_owed_move`; the result, such as
-- `result 1-0 {Black resigns}`, by the board's verdict, if any, otherwise by the reason; and `quit`. A side to which a
-- failed write ended the match is sent nothing
abbrev pub ends : Rules → Reason → Match → Effect
ends r reason m = record {
  after = record m { phase = Over reason };
  to = λ S. if is_write_fault_of reason S then [] else list_if (is_owed_move m.phase S) (move_line r m S ∷ [])
      ++ (Says (codes "result " ++ result_text (result_of (reported_reason (verdict r.start m.played) reason)))
      ∷ Says (codes "quit") ∷ []);
}

-- a line of the side `S` is ignored; the 10,000th in one setup or turn ends the match
abbrev pub ignores : Rules → Colour → Match → Effect
ignores r S m = if nat_le 10000 (m.count + 1) then ends r (Faulted S Flood) m
    else sends_nothing (record m { count = m.count + 1 })

-- the side `S` is sent its `opening`. Once these lines are sent, the clock is read: until then the phase is `Opening`,
-- and from that moment the turn's time runs
abbrev pub begins_turn : Rules → Colour → Match → Effect
begins_turn r S m = sends_to S (opening r m S) (record m { phase = Opening S; count = 0 })

-- the match `m` ends, if its position ends it; otherwise the effect is `otherwise`
abbrev pub unless_over : Rules → Match → Effect → Effect
unless_over r m otherwise = option_map_or (λ reason. ends r reason m) (over_by_position r m.played) otherwise

-- ---- a line in a turn

-- a draw offer of the side `S`: if an offer of the other side is open, the draw is agreed; if one of `S` is, the line
-- is ignored; otherwise the offer of `S` is now open, and the other side is sent `draw`, unless its feature `draw` is
-- off
abbrev pub offer_row : Rules → Colour → Match → Effect
offer_row r S m = if (m.seat (other S)).offers then ends r Agreed m
    else if (m.seat S).offers then ignores r S m
    else sends_to (other S) (list_if (takes (codes "draw") (m.seat (other S)).items) (Says (codes "draw") ∷ []))
    (with_seat S (λ s. record s { offers = true }) m)

-- what a line of the side `S` does in its turn, by its kind. `move` (`before_move`, `line_row`) and, after the move,
-- `pong` (`line_row`) don't come here
abbrev pub turn_row : Rules → Colour → LineKind → Match → Effect
turn_row r S Resigns m = ends r (over_by.Resigns S) m
turn_row r S OffersDraw m = offer_row r S m
-- `1/2-1/2`: a draw, if one may be claimed; otherwise an offer
turn_row r S ClaimsDraw m =
    option_map_or (λ claim. ends r (Claimed claim) m) (draw_claim (claims r.start m.played)) (offer_row r S m)
-- `1-0` or `0-1`: `S` loses, by a false claim if it says that it won (a mate needs no claim), otherwise by resigning
turn_row r S (ClaimsWin winner) m = ends r (if same_colour winner S then ClaimsFalsely S else over_by.Resigns S) m
-- `Illegal move`: `S` loses, as the move it was sent is legal; ignored if the other side has made none
turn_row r S Rejects m =
    if nat_lt 0 (length (m.seat (other S)).used) then ends r (RejectsLegalMove S) m else ignores r S m
-- any other line
turn_row r S _ m = ignores r S m

-- the match `m` after this move of the side `S`, which took `used` milliseconds: an open offer of the other side
-- lapses, and `pong` of `S` is awaited
abbrev pub moved : Colour → Move → ℕ → Match → Match
moved S move used m =
    with_seat (other S) (λ s. record s { offers = false }) (with_seat S (λ s. record s { used = s.used ++ used ∷ [] })
    (record m { phase = AfterMove S; played = m.played ++ move ∷ [] }))

-- what `move M` of the side `S` does, `used` milliseconds after its turn began, by what M denotes
abbrev pub move_row : Rules → Colour → ℕ → Reading → Match → Effect
-- one legal move: it is made, and `S` is sent the next `ping`, unless the position ends the match
move_row r S used (reads.Move move) m =
    let m' = moved S move used m in unless_over r m' (sends_to S (ping (ping_number m' S) ∷ []) m')
-- no legal move, or more than one: `S` loses
move_row r S used _ m = ends r (MovesIllegally S) m

-- what a line of this kind of the side `S` does before its move, `used` milliseconds into its turn, if its flag has not
-- fallen
abbrev pub before_move : Rules → Colour → ℕ → LineKind → Match → Effect
-- `move M`: the match ends if the game has reached its limit of half-moves, whatever M is
before_move r S used (Moves text) m = if nat_le r.limit (length m.played) then ends r GameTooLong m
    else move_row r S used (reading (position_after r.start m.played) text) m
-- any other line
before_move r S used kind m = turn_row r S kind m

-- the flag of the side `S` has fallen: it loses, but draws if the other side has only its king. Other positions in
-- which that side can't mate, which article 6.9 of the Laws of Chess 2023 draws too, are lost
abbrev pub flag_row : Rules → Colour → Match → Effect
flag_row r S m = let bare = has_bare_king (other S) (position_after r.start m.played).men in
    ends r (if bare then ForfeitsToBareKing else Forfeits S) m

-- ---- silences

-- the match `m`, but the time for a reply runs from this moment
abbrev pub awaited_since : ℕ → Match → Match
awaited_since moment m = record m { since = Some moment }

-- what a silence at this moment does, if the side `S` owes a reply other than a move. If it has owed it for more than
-- `r.patience.reply` milliseconds (`None`: no limit), the match ends by this fault; otherwise the reply's time runs
-- from this moment, unless it runs already
abbrev pub reply_row : Rules → Colour → MatchFault → ℕ → Match → Effect
reply_row r S fault moment m = let since = unwrap_or m.since moment in
    if option_map_or (λ limit. nat_lt limit (moment - since)) r.patience.reply false then ends r (Faulted S fault) m
    else sends_nothing (awaited_since since m)

-- what a silence of the side `S`, whose line this phase awaits, does at this moment
abbrev pub silence_row : Rules → Phase → Colour → ℕ → Match → Effect
silence_row r (Handshake side) S moment m = reply_row r S NoHandshake moment m
silence_row r (Setup side) S moment m = reply_row r S NoAnswer moment m
-- before a move: if `S` has used more than it had left, its flag has fallen, as with a line
silence_row r (BeforeMove side opened) S moment m =
    if nat_lt (clock r m S) (moment - opened) then flag_row r S m else sends_nothing m
silence_row r (AfterMove side) S moment m = reply_row r S NoAnswer moment m
-- other phases await no line
silence_row r _ _ _ m = sends_nothing m

-- ---- a line before the game

-- what follows both handshakes, by what White's engine lacks and what Black's lacks, if anything
abbrev pub judged : Rules → Option MatchFault → Option MatchFault → Match → Effect
judged r (Some fault) _ m = ends r (Faulted White fault) (record m { count = 0 })
judged r None (Some fault) m = ends r (Faulted Black fault) (record m { count = 0 })
-- neither lacks anything: White's setup begins
judged r None None m = sends_to White (setup_lines r White) (record m { phase = Setup White; count = 0 })

-- what follows this side's handshake: after White's comes Black's, then both engines are `judged`
abbrev pub handshake_done : Rules → Colour → Match → Effect
handshake_done r White m = sends_to Black handshake_lines (record m { phase = Handshake Black; count = 0 })
handshake_done r Black m = judged r (missing r (m.seat White).items) (missing r (m.seat Black).items) m

-- the answers to these items, whatever their values, such as `accepted ping`; `rejected`, if the arbiter doesn't know
-- the feature
abbrev pub answers_to : List Item → List SentLine
answers_to items = map (λ i. Says ((if is_known i.name then codes "accepted " else codes "rejected ") ++ i.name)) items

-- the effect `e`, but this side is first sent the answers to these items
abbrev pub with_answers : Colour → List Item → Effect → Effect
with_answers side items e = record e { to = λ S. list_if (same_colour side S) (answers_to items) ++ e.to S }

-- what a line of the side `S` does in its handshake. Its `items`, none if it is no `feature` line, are answered and
-- added to those of `S`. `done=1` ends the handshake; the 1,000th line, if it doesn't, ends the match
abbrev pub handshake_row : Rules → Colour → List Item → Match → Effect
handshake_row r S items m = let m' = with_seat S (λ s. record s { items = s.items ++ items }) m in
    with_answers S items
    (if list_any ends_handshake items then handshake_done r S m'
    else if nat_le 1000 (m.count + 1) then ends r (Faulted S NoDone) m'
    else sends_nothing (record m' { count = m.count + 1 }))

-- what follows this side's setup: after White's comes Black's, then the first turn, unless the starting position ends
-- the match
abbrev pub setup_done : Rules → Colour → Match → Effect
setup_done r White m = sends_to Black (setup_lines r Black) (record m { phase = Setup Black; count = 0 })
setup_done r Black m = unless_over r m (begins_turn r r.start.side m)

-- ---- one event

-- what a line of this kind does in this phase; it came at `moment` from the side `S` that the phase waits for. If it
-- restarts the time for a reply (see `Match`), `since` becomes `moment`, unless the flag has fallen
abbrev pub line_row : Rules → Phase → LineKind → ℕ → Match → Effect
line_row r (Handshake S) (Features text) moment m = handshake_row r S (items_of text) (awaited_since moment m)
line_row r (Handshake S) kind _ m = handshake_row r S [] m
-- in a setup: `pong 1` ends it; any other line is ignored, even `feature` or `move`
line_row r (Setup S) (Answers n) moment m =
    if n == 1 then setup_done r S (awaited_since moment m) else ignores r S m
line_row r (Setup S) kind _ m = ignores r S m
-- before a move: if `S` used more than it had left, its flag has fallen, whatever the line says
line_row r (BeforeMove S opened) kind moment m =
    if nat_lt (clock r m S) (moment - opened) then flag_row r S m
    else before_move r S (moment - opened) kind (awaited_since moment m)
-- after a move, before its `pong`: with another `move`, whatever it says, `S` loses
line_row r (AfterMove S) (Moves text) _ m = ends r (MovesOutOfTurn S) m
-- `pong N`: with the latest `ping`'s number it gives the other side its turn, otherwise it is ignored
line_row r (AfterMove S) (Answers n) _ m = if n == ping_number m S then begins_turn r (other S) m else ignores r S m
-- any other line
line_row r (AfterMove S) kind _ m = turn_row r S kind m
-- other phases await no line
line_row r _ _ _ m = sends_nothing m

-- what an event does to the match `m`
abbrev pub effect : Rules → Match → Event → Effect
-- a line that was too long is of the kind `SaysElse`
effect r m (Line S text moment) = line_row r m.phase (option_map_or kind_of text SaysElse) moment m
effect r m (Silent S moment) = silence_row r m.phase S moment m
-- the lines that open a turn were sent: from this moment its time runs
effect r m (Opened S moment) = sends_nothing (record m { phase = BeforeMove S moment })
effect r m (OutputEnds S) = ends r (Faulted S Ended) m
effect r m (FailsToRead S) = ends r (Faulted S Read) m
effect r m (FailsToWrite S) = ends r (Faulted S Write) m

-- how a match begins: White is sent `handshake_lines`; nothing is known of either engine
abbrev pub beginning : Effect
beginning = sends_to White handshake_lines (record {
  phase = Handshake White;
  seat = λ S. record { items = []; used = []; offers = false };
  played = [];
  count = 0;
  since = None;
})
