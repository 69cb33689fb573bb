-- What lines and silences of engines do in a match, in examples.
use Rattle.std.specs.Prelude.{◌≡◌, ℕ, Bool, true, false, List, [], ◌∷◌, codes, map, option_map, Option, None, Some}
use Prim.Native.String.{String as Text}
use Rattle.std.specs.Result.{result_ok}
use Rattle.chess_base.specs.declared.man.Colour.{Colour}
use Rattle.chess_base.specs.declared.man.Colour.TheVariants.{White, Black}
use Rattle.chess_base.specs.declared.man.Variant.TheVariants.{Normal, Fischerandom}
use Rattle.chess_base.specs.ByColour.{by_colour}
use Rattle.chess_base.specs.Initial.{initial_setup_of}
use Rattle.chess_fen.specs.Reading.{fen_reading_as}
use Rattle.cecp_engine.specs.Items.{items_of}
use Rattle.chess_match.specs.Acts.{Block, due_after}
use Rattle.chess_match.specs.Effects.{AfterMove, BeforeMove, Effect, Handshake, Match, Over, Phase, Setup, beginning, effect, judged, missing, moved, setup_done}
use Rattle.chess_match.specs.Events.{FailsToWrite, Line, OutputEnds, Silent}
use Rattle.chess_match.specs.Lines.{bytes_of}
use Rattle.chess_match.specs.Rules.{Rules}
use Rattle.chess_match.specs.declared.reason.MatchFault.{MatchFault}
use Rattle.chess_match.specs.declared.reason.MatchFault.TheVariants.{NoAnswer, NoDone, NoHandshake, NoPing, NoSetboard, NoVariant}
use Rattle.chess_match.specs.declared.reason.Reason.TheVariants as over_by
use Rattle.chess_match_laws.specs.Worked.{AreSentAs, after_e4, e4, seat_of, worked_rules}

-- a match in this phase, before any move, with engines that have `ping` on; a reply is awaited since the moment 2,000
abbrev pub match_in : Phase → Match
match_in phase = record {
  phase = phase;
  seat = λ S. seat_of "ping=1" [];
  played = [];
  count = 0;
  since = Some 2000;
}

-- what this line of the side `S` at the moment 3,000 does in the match `m`
abbrev pub by_line : Match → Colour → Text → Effect
by_line m S line = effect worked_rules m (Line S (Some (codes line)) 3000)

-- ---- claims of a result

-- the phase of the match after this line of the side `S`
abbrev pub phase_after : Phase → Colour → Text → Phase
phase_after phase S line = (by_line (match_in phase) S line).after.phase

-- a side that claims to have won loses by a false claim, since a mate needs no claim; one that says that the other side
-- has won, or `resign`, resigns; and one that rejects a legal move loses
pub record ClaimsAreJudged : Type 0 where
  pub white_claims : phase_after (BeforeMove White 1000) White "1-0 {White mates}" ≡ Over (over_by.ClaimsFalsely White)
  pub black_claims : phase_after (BeforeMove Black 1000) Black "0-1 {Black mates}" ≡ Over (over_by.ClaimsFalsely Black)
  pub white_gives_in : phase_after (BeforeMove White 1000) White "0-1 {White resigns}" ≡ Over (over_by.Resigns White)
  pub black_gives_in : phase_after (BeforeMove Black 1000) Black "1-0 {Black resigns}" ≡ Over (over_by.Resigns Black)
  pub resigns : phase_after (BeforeMove White 1000) White "resign" ≡ Over (over_by.Resigns White)
  -- one that rejects the move that it was sent, which was legal, loses
  pub rejects : (by_line (record after_e4 { phase = BeforeMove Black 1000 }) Black "Illegal move: e2e4").after.phase
      ≡ Over (over_by.RejectsLegalMove Black)
  -- White was sent no move yet, so its line is ignored
  pub rejects_nothing : (by_line after_e4 White "Illegal move: e2e4").after.phase ≡ AfterMove White
  -- a side's claim is judged so also once it has moved
  pub claims_later : phase_after (AfterMove White) White "1-0 {White mates}" ≡ Over (over_by.ClaimsFalsely White)
  pub gives_in_later : phase_after (AfterMove Black) Black "1-0 {Black resigns}" ≡ Over (over_by.Resigns Black)

-- ---- offers of a draw

-- a match in White's turn, before any move, in which White's offer of a draw is open or not, and Black's
abbrev pub offered_by : Bool → Bool → Match
offered_by white black = record (match_in (BeforeMove White 1000)) {
  seat = by_colour (record (seat_of "ping=1" []) { offers = white }) (record (seat_of "ping=1" []) { offers = black });
}

-- by this effect Black is sent this text
abbrev pub SendsBlack : Effect → Text → Type 0
SendsBlack e text = AreSentAs (e.to Black) text

-- what an offer of a draw by White does (CECP, version 2: section 9)
pub record OffersAreJudged : Type 0 where
  -- it is passed on to the other side, and it is open
  pub offer : SendsBlack (by_line (offered_by false false) White "offer draw") "draw\n"
  pub not_back : AreSentAs ((by_line (offered_by false false) White "offer draw").to White) ""
  pub is_open : ((by_line (offered_by false false) White "offer draw").after.seat White).offers ≡ true
  -- White offers again, while its offer is open: nothing is sent
  pub again : SendsBlack (by_line (offered_by true false) White "offer draw") ""
  -- Black has offered one too: so both agree
  pub agreed : (by_line (offered_by false true) White "offer draw").after.phase ≡ Over over_by.Agreed
  -- a claim of a draw where none may be claimed is an offer too
  pub claim : SendsBlack (by_line (offered_by false false) White "1/2-1/2") "draw\n"
  pub claim_agreed : (by_line (offered_by false true) White "1/2-1/2").after.phase ≡ Over over_by.Agreed

-- ---- ignored lines

-- when the count of ignored lines begins anew: with each setup and each turn, but not with a turn's move
pub record IgnoredAreCounted : Type 0 where
  pub setup : (by_line (record (match_in (Setup White)) { count = 9998 }) White "pong 1").after.count ≡ 0
  pub turn : (by_line (record after_e4 { count = 9998 }) White "pong 2").after.count ≡ 0
  -- those before a move and those after it, up to the `pong`, are counted together
  pub move : (moved White e4 2000 (record (match_in (BeforeMove White 1000)) { count = 9998 })).count ≡ 9998

-- ---- before the game

-- the phase of the match after one more line of White's handshake, without `done=1`, after so many
abbrev pub handshake_after : ℕ → Phase
handshake_after lines = (by_line (record (match_in (Handshake White)) { count = lines }) White "# loading").after.phase

-- what an engine with these items lacks for a match of Chess960 with a FEN
abbrev pub lacks : Text → Option MatchFault
lacks items = missing (record worked_rules { start = initial_setup_of Fischerandom }) (items_of (codes items))

-- how handshakes end, and what follows
pub record HandshakesEnd : Type 0 where
  -- the 1,000th line without `done=1` ends the match
  pub goes_on : handshake_after 998 ≡ Handshake White
  pub too_many : handshake_after 999 ≡ Over (over_by.Faulted White NoDone)
  -- `done=1` ends a handshake, but not with the 1 in quotes
  pub done : phase_after (Handshake White) White "feature done=1" ≡ Handshake Black
  pub quoted : phase_after (Handshake White) White "feature done=\"1\"" ≡ Handshake White
  -- `done=1` in the 1,000th line is in time
  pub in_time : (by_line (record (match_in (Handshake White)) { count = 999 }) White "feature done=1").after.phase
      ≡ Handshake Black
  -- the first of `ping`, `setboard` and Chess960 that an engine lacks is reported
  pub no_ping : lacks "variants=\"normal\"" ≡ Some NoPing
  pub no_setboard : lacks "ping=1 variants=\"normal\"" ≡ Some NoSetboard
  pub no_variant : lacks "ping=1 setboard=1 variants=\"normal\"" ≡ Some NoVariant
  pub nothing : lacks "ping=1 setboard=1" ≡ None
  -- from the initial position of normal chess only `ping` is needed
  pub only_ping : missing worked_rules (items_of (codes "ping=1 variants=\"suicide\"")) ≡ None
  -- if both engines lack something, it is White's fault
  pub both_lack : (judged worked_rules (Some NoSetboard) (Some NoPing) beginning.after).after.phase
      ≡ Over (over_by.Faulted White NoSetboard)
  pub black_lacks : (judged worked_rules None (Some NoPing) beginning.after).after.phase
      ≡ Over (over_by.Faulted Black NoPing)
  -- if none does, White's engine is set up, and then Black's
  pub none_lacks : (judged worked_rules None None beginning.after).after.phase ≡ Setup White
  pub white_is_set_up : (setup_done worked_rules White beginning.after).after.phase ≡ Setup Black

-- ---- silences

-- `worked_rules`, but with a limit of 5,000 milliseconds for a reply
abbrev pub five_seconds : Rules
five_seconds = record worked_rules { patience = record { flag = false; reply = Some 5000 } }

-- the phase of the match, by these rules, after a silence of White at this moment
abbrev pub after_silence : Phase → ℕ → Phase
after_silence phase moment = (effect five_seconds (match_in phase) (Silent White moment)).after.phase

-- what a silence of White does, with a limit of 5,000 milliseconds for a reply that is awaited since the moment 2,000:
-- in time the match stays in its phase; later it ends by the fault that says what was missing
pub record SilencesAreJudged : Type 0 where
  pub in_time : after_silence (Setup White) 7000 ≡ Setup White
  pub handshake : after_silence (Handshake White) 7001 ≡ Over (over_by.Faulted White NoHandshake)
  pub setup : after_silence (Setup White) 7001 ≡ Over (over_by.Faulted White NoAnswer)
  pub moved : after_silence (AfterMove White) 7001 ≡ Over (over_by.Faulted White NoAnswer)
  -- the first silence begins the time of a reply, if no line has
  pub first : (effect five_seconds beginning.after (Silent White 3000)).after.since ≡ Some 3000
  pub later : (effect five_seconds (match_in (Setup White)) (Silent White 3000)).after.since ≡ Some 2000

-- ---- the time for a reply

-- the match `m` after these lines of White, each with the moment at which it came
abbrev pub after_lines : Match → List (Text × ℕ) → Match
after_lines m [] = m
after_lines m (line ∷ lines) =
    after_lines (effect worked_rules m (Line White (Some (codes line.0)) line.1)).after lines

-- from which moment on the time for White's reply runs after these lines in the match `m`
abbrev pub runs_from : Match → List (Text × ℕ) → Option ℕ
runs_from m lines = (after_lines m lines).since

-- which lines begin the time for a reply anew
pub record RepliesAreTimed : Type 0 where
  -- in a handshake each `feature` line, and no other line
  pub feature : runs_from beginning.after (("feature ping=1", 3000) ∷ []) ≡ Some 3000
  pub remark : runs_from beginning.after (("feature ping=1", 3000) ∷ ("# loading", 4000) ∷ []) ≡ Some 3000
  pub next : runs_from beginning.after
      (("feature ping=1", 3000) ∷ ("# loading", 4000) ∷ ("feature san=1", 5000) ∷ []) ≡ Some 5000
  pub first : runs_from beginning.after (("# loading", 3000) ∷ []) ≡ None
  -- in a setup only `pong 1`
  pub setup : runs_from (match_in (Setup White)) (("# ready", 3000) ∷ ("pong 2", 4000) ∷ []) ≡ Some 2000
  pub pong : runs_from (match_in (Setup White)) (("# ready", 3000) ∷ ("pong 1", 4000) ∷ []) ≡ Some 4000
  -- while the `pong` after a move is awaited, none
  pub moved : runs_from (match_in (AfterMove White)) (("# waiting", 3000) ∷ ("pong 5", 4000) ∷ []) ≡ Some 2000

-- ---- ends

-- White resigns before its first move
abbrev pub resigned : Effect
resigned = by_line (match_in (BeforeMove White 1000)) White "resign"

-- White resigns after 1 e4, before its `pong`, so that Black was not sent the move yet
abbrev pub resigned_later : Effect
resigned_later = by_line after_e4 White "resign"

-- after 1 e4 writing to Black fails
abbrev pub broken : Effect
broken = effect worked_rules after_e4 (FailsToWrite Black)

-- what Black is sent if the output of White's engine ends in the handshake of a match from this FEN of normal chess;
-- `None` if the FEN is refused
abbrev pub sent_at_fault : Text → Option (List ℕ)
sent_at_fault fen = option_map
    (λ start. bytes_of ((effect (record worked_rules { start = start }) beginning.after (OutputEnds White)).to Black))
    (result_ok (fen_reading_as Normal (codes fen)))

-- the sides that are sent blocks after this line of the side `S` in the match `m`, in order
abbrev pub sides_due : Match → Colour → Text → List Colour
sides_due m S line =
    map (λ (block : Block). block.to) (due_after (Line S (Some (codes line)) 3000) (by_line m S line))

-- what engines are sent at the end, and which one first (CECP, version 2: section 8)
pub record EndLinesAreSent : Type 0 where
  -- both sides are sent the result and `quit`, Black after the move that it was not sent yet
  pub white : AreSentAs (resigned.to White) "result 0-1 {White resigns}\nquit\n"
  pub black : AreSentAs (resigned.to Black) "result 0-1 {White resigns}\nquit\n"
  pub mover : AreSentAs (resigned_later.to White) "result 0-1 {White resigns}\nquit\n"
  pub owed : AreSentAs (resigned_later.to Black) "usermove e2e4\nresult 0-1 {White resigns}\nquit\n"
  -- a side to which writing failed is sent nothing more
  pub broken_off : AreSentAs (broken.to Black) ""
  pub others : AreSentAs (broken.to White) "result * {Black can not be written}\nquit\n"
  -- if the start position ends the game, its outcome is the result, also after a fault
  pub stalemate : sent_at_fault "7k/5Q2/6K1/8/8/8/8/8 b - - 0 1" ≡ Some (codes "result 1/2-1/2 {Stalemate}\nquit\n")
  -- the end is sent to White first; before the end, the side whose line came is sent its block first
  pub at_the_end : sides_due (match_in (BeforeMove Black 1000)) Black "resign" ≡ White ∷ Black ∷ []
  pub before_it : sides_due (match_in (Handshake Black)) Black "feature ping=1 done=1" ≡ Black ∷ White ∷ []
