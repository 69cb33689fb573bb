-- Lines of engines and to them, time controls and ends of a match, in examples.
use Rattle.std.specs.Prelude.{◌≡◌, ℕ, Bool, true, false, List, [], ◌∷◌, codes, map, replicate, Option, None, Some}
use Prim.Native.String.{String as Text}
use Rattle.chess_base.specs.declared.man.Colour.{Colour}
use Rattle.chess_base.specs.declared.man.Colour.TheVariants.{White, Black}
use Rattle.chess_base.specs.declared.man.Kind.TheVariants.{King, Queen, Knight, Pawn}
use Rattle.chess_base.specs.declared.man.Man.{Man}
use Rattle.chess_base.specs.declared.man.Move.{Move}
use Rattle.chess_base.specs.ByColour.{by_colour}
use Rattle.chess_base.specs.Initial.{initial_setup, man_of}
use Rattle.chess_game.specs.declared.results.Outcome.TheVariants.{WhiteWins, BlackWins, Draw, Unfinished}
use Rattle.chess_game.specs.declared.tags.HowEnded.TheVariants as how
use Rattle.chess_game.specs.declared.verdicts.DrawClaim.{DrawClaim}
use Rattle.chess_game.specs.declared.verdicts.Verdict.{Verdict}
use Rattle.chess_game.specs.declared.verdicts.Verdict.TheVariants.{WhiteMates}
use Rattle.cecp_engine.specs.Clocks.{ClocksSeen, charged, new_clocks, remaining}
use Rattle.cecp_engine.specs.EngineLines.{LineKind, Features, Moves, Resigns, OffersDraw, ClaimsDraw, ClaimsWin, Rejects, Answers, SaysElse, kind_of}
use Rattle.cecp_engine.specs.Items.{Item, items_of, plays_fischerandom, takes}
use Rattle.cecp_engine.specs.Levels.{LevelSeen, allotted, level_of, level_text}
use Rattle.chess_match.specs.Effects.{AfterMove, Match, beginning, handshake_done, opening}
use Rattle.chess_match.specs.Events.{Seat}
use Rattle.chess_match.specs.Lines.{SentLine, bytes_of}
use Rattle.chess_match.specs.Rules.{Rules, has_bare_king, rules_of}
use Rattle.chess_match.specs.declared.draws.Draws.TheVariants as rules_of_draws
use Rattle.chess_match.specs.Reasons.{comment_of, ended_by, outcome_by_reason, reported_fault}
use Rattle.chess_match.specs.declared.reason.MatchFault.{MatchFault}
use Rattle.chess_match.specs.declared.reason.MatchFault.TheVariants.{Ended, Read, Write, NoDone, NoPing, NoSetboard, Flood, NoVariant, NoHandshake, NoAnswer}
use Rattle.chess_match.specs.declared.reason.Reason.{Reason}
use Rattle.chess_match.specs.declared.reason.Reason.TheVariants as over_by
use Rattle.chess_match.specs.declared.reason.Reason.TheVariants.{Agreed, MovesIllegally, MovesOutOfTurn, ClaimsFalsely, RejectsLegalMove, Forfeits, ForfeitsToBareKing, GameTooLong, Faulted}

-- ---- lines of engines

-- a line with this text is of this kind
abbrev pub IsLine : Text → LineKind → Type 0
IsLine text kind = kind_of (codes text) ≡ kind

-- what a line of an engine says (CECP, version 2: section 9)
pub record LinesSay : Type 0 where
  pub move : IsLine "move e2e4" (Moves (codes "e2e4"))
  pub feature : IsLine "feature ping=1 done=1" (Features (codes "ping=1 done=1"))
  pub resign : IsLine "resign" Resigns
  pub offer : IsLine "offer draw" OffersDraw
  pub draw : IsLine "1/2-1/2 {Draw by repetition}" ClaimsDraw
  pub white_wins : IsLine "1-0 {White mates}" (ClaimsWin White)
  pub black_wins : IsLine "0-1 {White resigns}" (ClaimsWin Black)
  pub illegal : IsLine "Illegal move: e2e4" Rejects
  -- the number of a `pong` has at most nine digits
  pub pong : IsLine "pong 12" (Answers 12)
  pub nine_digits : IsLine "pong 123456789" (Answers 123456789)
  pub ten_digits : IsLine "pong 1234567890" SaysElse
  -- its thinking, a remark, and lines that are not quite one of the above
  pub thinking : IsLine "9 156 1084 48000 Nf3 Nc6" SaysElse
  pub remark : IsLine "# resign" SaysElse
  pub capital : IsLine "Resign" SaysElse
  pub no_draw : IsLine "offer peace" SaysElse
  pub no_number : IsLine "pong one" SaysElse

-- the name of an item of a `feature` line, and its value without quotes
abbrev pub name_and_value : Item → List ℕ × List ℕ
name_and_value i = (i.name, i.value.text)

-- the items of a `feature` line, in an example: none after `done=1`
abbrev pub ItemsAreRead : Type 0
ItemsAreRead = map name_and_value
    (items_of (codes "ping=1 myname=\"Sjeng 11\" usermove=0 done=1 san=1"))
    ≡ (codes "ping", codes "1") ∷ (codes "myname", codes "Sjeng 11") ∷ (codes "usermove", codes "0")
    ∷ (codes "done", codes "1") ∷ []

-- whether an engine with these items of `feature` lines has this feature on
abbrev pub is_on : Text → Text → Bool
is_on name items = takes (codes name) (items_of (codes items))

-- which features an engine has on: of a name the last item counts, 1 in quotes is not 1, and what isn't said is CECP's
-- default
pub record FeaturesAreOn : Type 0 where
  pub said : is_on "ping" "san=1 ping=1" ≡ true
  pub last : is_on "ping" "ping=1 ping=0" ≡ false
  pub quoted : is_on "ping" "ping=\"1\"" ≡ false
  pub no_ping : is_on "ping" "" ≡ false
  pub no_setboard : is_on "setboard" "" ≡ false
  pub no_san : is_on "san" "" ≡ false
  pub no_usermove : is_on "usermove" "" ≡ false
  pub times : is_on "time" "" ≡ true
  pub draws : is_on "draw" "" ≡ true
  pub no_times : is_on "time" "time=0" ≡ false
  pub no_draws : is_on "draw" "draw=0" ≡ false
  -- an item without a space after its value, or without a value, ends the line's items
  pub no_space : is_on "ping" "ping=1,san=1" ≡ false
  pub no_value : is_on "san" "ping=x san=1" ≡ false
  pub chess960 : plays_fischerandom (items_of (codes "variants=\"normal,fischerandom\"")) ≡ true
  pub normal : plays_fischerandom (items_of (codes "variants=\"normal\"")) ≡ false
  pub all_variants : plays_fischerandom [] ≡ true

-- ---- time controls

-- 40 moves in 5 minutes
abbrev pub forty_in_five : LevelSeen
forty_in_five = record { moves = 40; base = 300000; increment = 0 }

-- 2 minutes for the game, and 12 seconds more for each move
abbrev pub two_and_twelve : LevelSeen
two_and_twelve = record { moves = 0; base = 120000; increment = 12000 }

-- texts that are parsed as time controls or as none, texts that are written of time controls, and how many milliseconds
-- these give in all after some moves
pub record LevelsGive : Type 0 where
  pub forty : level_of (codes "40 5 0") ≡ Some forty_in_five
  pub twelve : level_of (codes "0 2 12") ≡ Some two_and_twelve
  pub short : level_of (codes "0 0:30 0.1") ≡ Some (record { moves = 0; base = 30000; increment = 100 })
  -- 2 hours, and 30 seconds more for each move; and parts of a second
  pub long : level_of (codes "0 120 30") ≡ Some (record { moves = 0; base = 7200000; increment = 30000 })
  pub parts : level_of (codes "0 0:08.25 0.125") ≡ Some (record { moves = 0; base = 8250; increment = 125 })
  -- moves, minutes and seconds have at most three digits
  pub four_digits : level_of (codes "0 1000 0") ≡ None
  pub four_digits_of_moves : level_of (codes "1000 5 0") ≡ None
  -- seconds are below 60
  pub seconds : level_of (codes "0 0:60 0") ≡ None
  pub shown : level_text (record { moves = 0; base = 8500; increment = 100 }) ≡ codes "0 0:08.5 0.1"
  pub minutes_shown : level_text (record { moves = 40; base = 305000; increment = 2000 }) ≡ codes "40 5:05 2"
  -- the time given before the first move, after 39 moves, and after 40
  pub first : allotted forty_in_five 0 ≡ 300000
  pub last : allotted forty_in_five 39 ≡ 300000
  pub second : allotted forty_in_five 40 ≡ 600000
  -- after 80 moves and after 120
  pub third : allotted forty_in_five 80 ≡ 900000
  pub fourth : allotted forty_in_five 120 ≡ 1200000
  -- 12 seconds for each move made
  pub increments : allotted two_and_twelve 3 ≡ 156000

-- ---- clocks

-- clocks of a game in which White has 40 moves in 5 minutes, and Black 2 minutes and 12 seconds more for each move
abbrev pub two_clocks : ClocksSeen
two_clocks = new_clocks (by_colour forty_in_five two_and_twelve)

-- the clocks after these moves, each a side and its milliseconds
abbrev pub after_times : ClocksSeen → List (Colour × ℕ) → ClocksSeen
after_times clocks [] = clocks
after_times clocks (move ∷ moves) = after_times (charged clocks move.0 move.1) moves

-- after these moves White and Black have so many milliseconds left
abbrev pub HaveLeft : List (Colour × ℕ) → (white black : ℕ) → Type 0
HaveLeft moves white black = (remaining (after_times two_clocks moves) White ≡ white)
    × (remaining (after_times two_clocks moves) Black ≡ black)

-- what moves leave on the clocks
pub record ClocksGoOn : Type 0 where
  pub start : HaveLeft [] 300000 120000
  -- White moves in 1,001 milliseconds, Black in 5 seconds (and gets 12 more), and White again in 2
  pub white : HaveLeft ((White, 1001) ∷ []) 298999 120000
  pub black : HaveLeft ((White, 1001) ∷ (Black, 5000) ∷ []) 298999 127000
  pub again : HaveLeft ((White, 1001) ∷ (Black, 5000) ∷ (White, 2000) ∷ []) 296999 127000
  -- White makes 39 moves in a second each, and a 40th, for which it gets 5 minutes more
  pub last : HaveLeft (replicate 39 (White, 1000)) 261000 120000
  pub next_session : HaveLeft (replicate 40 (White, 1000)) 560000 120000
  -- a move that takes all that White has
  pub none_left : HaveLeft ((White, 300000) ∷ []) 0 120000

-- ---- lines that are sent

-- rules of a match from the initial position, 40 moves in 5 minutes, in which draws must be claimed
abbrev pub worked_rules : Rules
worked_rules =
    rules_of initial_setup (λ S. forty_in_five) (record { flag = false; reply = None }) rules_of_draws.Claimed 20000

-- what a match knows of an engine with these items, whose moves took so many milliseconds, and which has no open offer
abbrev pub seat_of : Text → List ℕ → Seat
seat_of items used = record { items = items_of (codes items); used = used; offers = false }

-- the move e2e4
abbrev pub e4 : Move
e4 = record { from = 12; to = 28; promotion = None }

-- the move e7e5
abbrev pub e5 : Move
e5 = record { from = 52; to = 36; promotion = None }

-- a match after 1 e4, which took White 1,001 milliseconds; only Black's engine has `usermove` on
abbrev pub after_e4 : Match
after_e4 = record {
  phase = AfterMove White;
  seat = by_colour (seat_of "" (1001 ∷ [])) (seat_of "usermove=1" []);
  played = e4 ∷ [];
  count = 0;
  since = None;
}

-- the match after 1 e4 e5, which took Black 2,000 milliseconds
abbrev pub after_e5 : Match
after_e5 = record {
  phase = AfterMove Black;
  seat = by_colour (seat_of "" (1001 ∷ [])) (seat_of "usermove=1" (2000 ∷ []));
  played = e4 ∷ e5 ∷ [];
  count = 0;
  since = None;
}

-- these lines are sent as this text
abbrev pub AreSentAs : List SentLine → Text → Type 0
AreSentAs lines text = bytes_of lines ≡ codes text

-- what engines are sent: the lines that begin the handshakes, first White's, and that open three turns
pub record LinesAreSent : Type 0 where
  pub handshake : AreSentAs (beginning.to White) "xboard\nprotover 2\n"
  pub only_white : AreSentAs (beginning.to Black) ""
  pub second_handshake : AreSentAs ((handshake_done worked_rules White beginning.after).to Black) "xboard\nprotover 2\n"
  pub first_turn : AreSentAs (opening worked_rules beginning.after White) "time 30000\notim 30000\ngo\n"
  -- a first turn after a move: the move comes before the clocks, which are rounded down
  pub answer : AreSentAs (opening worked_rules after_e4 Black) "usermove e2e4\ntime 30000\notim 29899\ngo\n"
  -- a later turn: the move comes after the clocks
  pub later_turn : AreSentAs (opening worked_rules after_e5 White) "time 29899\notim 29800\ne7e5\n"
  -- in SAN, if the engine has `san` on
  pub in_san : AreSentAs (opening worked_rules
      (record after_e4 { seat = by_colour (seat_of "" (1001 ∷ [])) (seat_of "san=1" []) }) Black)
      "e4\ntime 30000\notim 29899\ngo\n"
  -- without clocks, if it has `time` off
  pub no_clocks : AreSentAs (opening worked_rules
      (record after_e5 { seat = by_colour (seat_of "time=0" (1001 ∷ [])) (seat_of "" (2000 ∷ [])) }) White) "e7e5\n"

-- ---- bare kings

-- whether White has only its king on this board
abbrev pub is_bare : List (Option Man) → Bool
is_bare men = has_bare_king White men

-- a king is bare if its side has no other piece, whatever the other side has
pub record KingsAreBare : Type 0 where
  pub king : is_bare (man_of White King ∷ None ∷ man_of Black King ∷ man_of Black Queen ∷ []) ≡ true
  pub queen : is_bare (man_of White King ∷ man_of White Queen ∷ man_of Black King ∷ []) ≡ false
  pub knight : is_bare (man_of White King ∷ man_of White Knight ∷ man_of Black King ∷ []) ≡ false
  pub pawn : is_bare (man_of Black King ∷ man_of White King ∷ man_of White Pawn ∷ []) ≡ false
  -- Black's king
  pub black_king : has_bare_king Black (man_of White King ∷ man_of White Pawn ∷ man_of Black King ∷ []) ≡ true

-- ---- ends

-- the outcome (who wins, a draw, or none), by the reason why the match ended
pub record LosersLose : Type 0 where
  pub white_resigns : outcome_by_reason (over_by.Resigns White) ≡ BlackWins
  pub black_resigns : outcome_by_reason (over_by.Resigns Black) ≡ WhiteWins
  pub white_errs : outcome_by_reason (MovesIllegally White) ≡ BlackWins
  pub black_errs : outcome_by_reason (MovesIllegally Black) ≡ WhiteWins
  pub white_moves_twice : outcome_by_reason (MovesOutOfTurn White) ≡ BlackWins
  pub black_moves_twice : outcome_by_reason (MovesOutOfTurn Black) ≡ WhiteWins
  pub white_claims : outcome_by_reason (ClaimsFalsely White) ≡ BlackWins
  pub black_claims : outcome_by_reason (ClaimsFalsely Black) ≡ WhiteWins
  pub white_rejects : outcome_by_reason (RejectsLegalMove White) ≡ BlackWins
  pub black_rejects : outcome_by_reason (RejectsLegalMove Black) ≡ WhiteWins
  pub white_forfeits : outcome_by_reason (Forfeits White) ≡ BlackWins
  pub black_forfeits : outcome_by_reason (Forfeits Black) ≡ WhiteWins
  pub bare_king : outcome_by_reason ForfeitsToBareKing ≡ Draw
  pub agreed : outcome_by_reason Agreed ≡ Draw
  pub white_mates : outcome_by_reason (over_by.Decided WhiteMates) ≡ WhiteWins
  pub claimed : (claim : DrawClaim) → outcome_by_reason (over_by.Claimed claim) ≡ Draw
  pub too_long : outcome_by_reason GameTooLong ≡ Unfinished
  pub faults : (c : Colour) (fault : MatchFault) → outcome_by_reason (Faulted c fault) ≡ Unfinished

-- the kind of end for the tag Termination: a side broke a rule, its time ran out, or neither (normal)
pub record EndsAreOfKinds : Type 0 where
  pub errs : (c : Colour) → ended_by (MovesIllegally c) ≡ how.RulesInfraction
  pub moves_twice : (c : Colour) → ended_by (MovesOutOfTurn c) ≡ how.RulesInfraction
  pub claims : (c : Colour) → ended_by (ClaimsFalsely c) ≡ how.RulesInfraction
  pub rejects : (c : Colour) → ended_by (RejectsLegalMove c) ≡ how.RulesInfraction
  pub forfeits : (c : Colour) → ended_by (Forfeits c) ≡ how.TimeForfeit
  pub bare_king : ended_by ForfeitsToBareKing ≡ how.TimeForfeit
  pub resigns : (c : Colour) → ended_by (over_by.Resigns c) ≡ how.Normal
  pub agreed : ended_by Agreed ≡ how.Normal
  pub decided : (v : Verdict) → ended_by (over_by.Decided v) ≡ how.Normal
  pub claimed : (claim : DrawClaim) → ended_by (over_by.Claimed claim) ≡ how.Normal

-- which fault is reported, and of which side, by why the match ended and whether writing each side's last lines failed
pub record FaultsAreReported : Type 0 where
  pub ending : reported_fault (Faulted Black Flood) (λ S. true) ≡ Some (Black, Flood)
  pub both_unwritten : reported_fault Agreed (λ S. true) ≡ Some (White, Write)
  pub black_unwritten : reported_fault Agreed (by_colour false true) ≡ Some (Black, Write)
  pub written : reported_fault Agreed (λ S. false) ≡ None

-- this is the comment on a match that ended for this reason
abbrev pub IsWorded : Reason → Text → Type 0
IsWorded reason comment = comment_of reason ≡ codes comment

-- the comments on ends
pub record EndsAreWorded : Type 0 where
  pub resigns : IsWorded (over_by.Resigns Black) "Black resigns"
  pub agreed : IsWorded Agreed "Draw agreed"
  pub errs : IsWorded (MovesIllegally White) "White makes an illegal move"
  pub moves_twice : IsWorded (MovesOutOfTurn Black) "Black moves out of turn"
  pub claims : IsWorded (ClaimsFalsely White) "White makes a false claim"
  pub rejects : IsWorded (RejectsLegalMove Black) "Black rejects a legal move"
  pub forfeits : IsWorded (Forfeits White) "White forfeits on time"
  pub bare_king : IsWorded ForfeitsToBareKing "Time forfeit against a bare king"
  pub too_long : IsWorded GameTooLong "Game too long"
  pub no_ping : IsWorded (Faulted Black NoPing) "Black has no ping"
  pub no_setboard : IsWorded (Faulted White NoSetboard) "White has no setboard"
  pub no_variant : IsWorded (Faulted Black NoVariant) "Black has no fischerandom"
  pub no_done : IsWorded (Faulted White NoDone) "White did not send done=1"
  pub no_handshake : IsWorded (Faulted Black NoHandshake) "Black sent no done=1 (a UCI engine needs polyglot)"
  pub no_answer : IsWorded (Faulted White NoAnswer) "White did not answer"
  pub flood : IsWorded (Faulted Black Flood) "Black sent too many lines"
  pub ended : IsWorded (Faulted White Ended) "White ended its output"
  pub unread : IsWorded (Faulted Black Read) "Black can not be read"
  pub unwritten : IsWorded (Faulted White Write) "White can not be written"
