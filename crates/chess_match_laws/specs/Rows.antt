-- Lines that engines are sent and send, by the acts `H` of a match. Lines that could not be sent count.
use Rattle.std.specs.Prelude.{◌≡◌, ◌≤◌, ℕ, zero, suc, ◌+◌, ◌&&◌, Bool, true, false, List, [], ◌∷◌, ◌++◌, length, take, codes, decimal, Option}
use Rattle.std.specs.List.{flat_map, list_any}
use Rattle.std.specs.Str.{bytes_eq}
use Rattle.cecp_engine.specs.EngineLines.{LineKind, OffersDraw, ClaimsDraw}
use Rattle.cecp_engine.specs.Items.{takes}
use Rattle.chess_base.specs.Initial.{initial_setup}
use Rattle.chess_base.specs.Men.{other, same_colour}
use Rattle.chess_base.specs.Options.{list_if}
use Rattle.chess_base.specs.declared.man.Colour.{Colour}
use Rattle.chess_base.specs.declared.man.Variant.TheVariants.{Fischerandom}
use Rattle.chess_base.specs.declared.setup.Setup.{Setup as Position}
use Rattle.chess_fen.specs.Writing.{fen}
use Rattle.chess_match.specs.Acts.{Act, Happens}
use Rattle.chess_match.specs.Effects.{Match, Over, Setup}
use Rattle.chess_match.specs.Events.{Line, Opened}
use Rattle.chess_match.specs.Lines.{SentLine, Says, bytes_of}
use Rattle.chess_match.specs.Rules.{Rules}
use Rattle.chess_match.specs.declared.reason.Reason.TheVariants.{Agreed}
use Rattle.chess_match.specs.laws.Laws.{line_kind, lines_given, lines_read}
use Rattle.chess_match_laws.specs.OfActs.{only_sends}
use Rattle.chess_match_laws.specs.Streams.{is_move}

-- ---- setup

-- the lines that set an engine up for normal chess from the initial position, 40 moves in 5 minutes
abbrev pub normal_setup : List ℕ
normal_setup = codes "new\nlevel 40 5 0\nnopost\neasy\nforce\nping 1\n"

-- the lines that set an engine up for Chess960 from this position, 2 minutes and 12 seconds more for each move
abbrev pub chess960_setup : Position → List ℕ
chess960_setup start =
    codes "new\nvariant fischerandom\nlevel 0 2 12\nnopost\neasy\nforce\nsetboard " ++ fen start ++ codes "\nping 1\n"

-- the bytes `sent` end in the setup of the side `S`, in two cases: normal chess from the initial position with
-- `level 40 5 0`, and Chess960 with `level 0 2 12`
pub record SetUpBy (r : Rules) (S : Colour) (sent : List ℕ) : Type 0 where
  pub normal : r.start ≡ initial_setup → r.level S ≡ record { moves = 40; base = 300000; increment = 0 }
      → (before : List ℕ) × (sent ≡ before ++ normal_setup)
  pub chess960 : r.start.variant ≡ Fischerandom → r.level S ≡ record { moves = 0; base = 120000; increment = 12000 }
      → (before : List ℕ) × (sent ≡ before ++ chess960_setup r.start)

-- while the side `S` owes `pong 1`, its setup is what it was sent last, in two cases (`SetUpBy`)
abbrev pub IsSetUp : Rules → Colour → List Act → Match → Type 0
IsSetUp r S H m = m.phase ≡ Setup S → SetUpBy r S (bytes_of (lines_given S H))

-- ---- `ping` and `go`

-- the text of a line that begins with `ping `, as a list of one; empty for other lines
abbrev pub ping_text : SentLine → List (List ℕ)
ping_text (Says text) = list_if (bytes_eq (take 5 text) (codes "ping ")) (text ∷ [])
ping_text _ = []

-- the texts of so many lines `ping N` (second argument), with consecutive numbers from the first argument on
abbrev pub pings : ℕ → ℕ → List (List ℕ)
pings number zero = []
pings number (suc more) = (codes "ping " ++ decimal number) ∷ pings (number + 1) more

-- the n-th `ping` in the blocks for each side, also in one that could not be sent, has the number n
abbrev pub PingsAreNumbered : Rules → List Act → Match → Type 0
PingsAreNumbered r H m = (S : Colour) → let sent = flat_map ping_text (lines_given S H) in sent ≡ pings 1 (length sent)

-- the text of a line `go`, as a list of one; empty for other lines
abbrev pub go_text : SentLine → List (List ℕ)
go_text (Says text) = list_if (bytes_eq text (codes "go")) (text ∷ [])
go_text _ = []

-- the blocks for each side, also one that could not be sent, have `go` at most once
abbrev pub GoIsSentOnce : Rules → List Act → Match → Type 0
GoIsSentOnce r H m = (S : Colour) → length (flat_map go_text (lines_given S H)) ≤ 1

-- the side `S` was sent `go` just once (a block that could not be sent counts)
abbrev pub WasSentGo : Rules → Colour → List Act → Match → Type 0
WasSentGo r S H m = length (flat_map go_text (lines_given S H)) ≡ 1

-- ---- turns

-- 1 for true, 0 for false
abbrev pub one_if : Bool → ℕ
one_if true = 1
one_if false = 0

-- how often the clock was read for openings of the side `S`
abbrev pub openings : Colour → List Act → ℕ
openings S [] = 0
openings S (Happens (Opened side moment) ∷ H) = one_if (same_colour side S) + openings S H
openings S (_ ∷ H) = openings S H

-- the clock was read for openings of each side `S` as often as `S` has moved (`used` has a time for each move), or once
-- more
abbrev pub TurnsAreOpenedOnce : Rules → List Act → Match → Type 0
TurnsAreOpenedOnce r H m = (S : Colour) → (length (m.seat S).used ≤ openings S H)
    × (openings S H ≤ length (m.seat S).used + 1)

-- ---- offers of a draw

-- whether a line offers a draw: `offer draw`, or `1/2-1/2`, which offers one if none can be claimed
abbrev pub is_offer : LineKind → Bool
is_offer OffersDraw = true
is_offer ClaimsDraw = true
is_offer _ = false

-- whether this act is a `move` line of the side `S`
abbrev pub is_move_of : Colour → Act → Bool
is_move_of S (Happens (Line side text moment)) = same_colour side S && is_move (line_kind text)
is_move_of S _ = false

-- a draw was agreed by the acts `H`: the other side offered it, and then `side` did too, by the last line that was
-- read. In between `side` sent no `move` line, by which the offer would have lapsed
pub record IsAgreed (H : List Act) : Type 0 where
  -- the side that offered last
  pub side : Colour
  pub before : List Act
  pub offer : Option (List ℕ)
  -- the clock's moment after the other side's offer
  pub offered_at : ℕ
  pub between : List Act
  pub answer : Option (List ℕ)
  pub answered_at : ℕ
  pub after : List Act
  pub acts : H ≡ before ++ Happens (Line (other side) offer offered_at) ∷ between ++ Happens (Line side answer answered_at) ∷ after
  -- each of the two lines is `offer draw` or `1/2-1/2`
  pub offered : is_offer (line_kind offer) ≡ true
  pub answered : is_offer (line_kind answer) ≡ true
  pub no_move : list_any (is_move_of side) between ≡ false
  -- after the answer no line was read
  pub last : only_sends after ≡ true

-- a match that ended by agreement was agreed by two offers (`IsAgreed`)
abbrev pub AgreedDrawsAreOffered : Rules → List Act → Match → Type 0
AgreedDrawsAreOffered r H m = m.phase ≡ Over Agreed → IsAgreed H

-- the text of a line `draw`, as a list of one; empty for other lines
abbrev pub draw_text : SentLine → List (List ℕ)
draw_text (Says text) = list_if (bytes_eq text (codes "draw")) (text ∷ [])
draw_text _ = []

-- while an offer of a draw by the other side is open, the side `S` was sent `draw` (a block that could not be sent
-- counts), unless its engine has the feature off
abbrev pub OffersArePassedOn : Rules → Colour → List Act → Match → Type 0
OffersArePassedOn r S H m = (m.seat (other S)).offers ≡ true → takes (codes "draw") (m.seat S).items ≡ true
    → 1 ≤ length (flat_map draw_text (lines_given S H))

-- each side was sent `draw` (a block that could not be sent counts) at most once more than it has moved: so a repeated
-- offer is not passed on again
abbrev pub DrawsAreFew : Rules → List Act → Match → Type 0
DrawsAreFew r H m =
    (S : Colour) → length (flat_map draw_text (lines_given S H)) ≤ length (m.seat S).used + 1

-- a line that offers a draw, as a list of one; empty for other lines
abbrev pub offer_of : Option (List ℕ) → List (Option (List ℕ))
offer_of line = list_if (is_offer (line_kind line)) (line ∷ [])

-- each side was sent `draw` (a block that could not be sent counts) at most as often as the other side offered a draw
abbrev pub DrawsAreOffered : Rules → List Act → Match → Type 0
DrawsAreOffered r H m = (S : Colour)
    → length (flat_map draw_text (lines_given S H)) ≤ length (flat_map offer_of (lines_read (other S) H))
