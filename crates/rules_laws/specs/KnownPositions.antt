-- Known lines and their FENs, positions that are the same, and FENs that are refused.
use Rattle.std.specs.Prelude.{◌≡◌, ◌<◌, ℕ, Bool, true, false, IsTrue, List, [], ◌∷◌, ◌++◌, codes, Option, Some, is_some, option_map, option_and_then, Err}
use Prim.Native.String.{String as Text}
use Rattle.std.specs.Result.{result_ok}
use Rattle.byte_devices.specs.Bytes.{tab}
use Rattle.chess_base.specs.declared.fen_fault.FenFault.{FenFault}
use Rattle.chess_base.specs.declared.fen_fault.FenFault.TheVariants.{Fields, Placement, Side, Castling, EnPassant, Counters, Kings, Pawns, Men, Check}
use Rattle.chess_base.specs.declared.man.Kind.TheVariants.{Queen}
use Rattle.chess_base.specs.declared.man.Move.{Move}
use Rattle.chess_base.specs.declared.man.Variant.TheVariants.{Normal, Fischerandom}
use Rattle.chess_base.specs.declared.setup.Setup.{Setup}
use Rattle.chess_base.specs.Initial.{initial_setup}
use Rattle.chess_base.specs.Men.{man_at}
use Rattle.chess_fen.specs.Reading.{fen_reading_as}
use Rattle.chess_fen.specs.Writing.{fen}
use Rattle.chess_game.specs.Line.{IsLine, position_after}
use Rattle.chess_game.specs.Same.{is_same_position}
use Rattle.rules_laws.specs.KnownGames.{move_by}
use Rattle.rules_laws.specs.Names.{square}

-- ---- lines

-- these moves from the initial position are legal, and lead to the position with this FEN
abbrev pub LeadsTo : List Move → Text → Type 0
LeadsTo ms text = IsLine initial_setup ms × (fen (position_after initial_setup ms) ≡ codes text)

-- the move between two named squares with promotion to a queen
abbrev pub promotes : Text → Text → Move
promotes from to = record { from = square from; to = square to; promotion = Some Queen }

-- lines and the FENs that they lead to
pub record LinesLeadToFens : Type 0 where
  -- 1 e4 c5 2 Nf3, the examples of the PGN standard, section 16.1.4
  pub pawn : LeadsTo (move_by "e2" "e4" ∷ []) "rnbqkbnr/pppppppp/8/8/4P3/8/PPPP1PPP/RNBQKBNR b KQkq e3 0 1"
  pub answer : LeadsTo (move_by "e2" "e4" ∷ move_by "c7" "c5" ∷ [])
      "rnbqkbnr/pp1ppppp/8/2p5/4P3/8/PPPP1PPP/RNBQKBNR w KQkq c6 0 2"
  pub knight : LeadsTo (move_by "e2" "e4" ∷ move_by "c7" "c5" ∷ move_by "g1" "f3" ∷ [])
      "rnbqkbnr/pp1ppppp/8/2p5/4P3/5N2/PPPP1PPP/RNBQKB1R b KQkq - 1 2"
  -- 1 e4 d5 2 exd5 Qxd5 3 Nf3 Bg4 4 Be2 Nc6 5 O-O O-O-O
  pub castling : LeadsTo (move_by "e2" "e4" ∷ move_by "d7" "d5" ∷ move_by "e4" "d5" ∷ move_by "d8" "d5" ∷
      move_by "g1" "f3" ∷ move_by "c8" "g4" ∷ move_by "f1" "e2" ∷ move_by "b8" "c6" ∷ move_by "e1" "g1" ∷
      move_by "e8" "c8" ∷ []) "2kr1bnr/ppp1pppp/2n5/3q4/6b1/5N2/PPPPBPPP/RNBQ1RK1 w - - 6 6"
  -- 1 e4 a6 2 e5 d5 3 exd6
  pub en_passant : LeadsTo (move_by "e2" "e4" ∷ move_by "a7" "a6" ∷ move_by "e4" "e5" ∷ move_by "d7" "d5" ∷
      move_by "e5" "d6" ∷ []) "rnbqkbnr/1pp1pppp/p2P4/8/8/8/PPPP1PPP/RNBQKBNR b KQkq - 0 3"
  -- 1 h4 g5 2 hxg5 h6 3 gxh6 Nf6 4 h7 Ng8 5 hxg8=Q
  pub promotion : LeadsTo (move_by "h2" "h4" ∷ move_by "g7" "g5" ∷ move_by "h4" "g5" ∷ move_by "h7" "h6" ∷
      move_by "g5" "h6" ∷ move_by "g8" "f6" ∷ move_by "h6" "h7" ∷ move_by "f6" "g8" ∷ promotes "h7" "g8" ∷ [])
      "rnbqkbQr/pppppp2/8/8/8/8/PPPPPPP1/RNBQKBNR b KQkq - 0 5"
  -- 1 a4 a5 2 Ra3
  pub rook_moved : LeadsTo (move_by "a2" "a4" ∷ move_by "a7" "a5" ∷ move_by "a1" "a3" ∷ [])
      "rnbqkbnr/1ppppppp/8/p7/P7/R7/1PPPPPPP/1NBQKBNR b Kkq - 1 2"
  -- 1 b3 g6 2 Bb2 a6 3 Bxh8
  pub rook_captured : LeadsTo (move_by "b2" "b3" ∷ move_by "g7" "g6" ∷ move_by "c1" "b2" ∷ move_by "a7" "a6" ∷
      move_by "b2" "h8" ∷ []) "rnbqkbnB/1ppppp1p/p5p1/8/8/1P6/P1PPPPPP/RN1QKBNR b KQq - 0 3"

-- ---- the same position

-- whether two lines from the initial position lead to the same position
abbrev pub are_same_after : List Move → List Move → Bool
are_same_after ms ns = is_same_position (position_after initial_setup ms) (position_after initial_setup ns)

-- 1 Nf3 Nf6 2 Ng1 Ng8
abbrev pub knights_dance : List Move
knights_dance = move_by "g1" "f3" ∷ move_by "g8" "f6" ∷ move_by "f3" "g1" ∷ move_by "f6" "g8" ∷ []

-- 1 e4 e5
abbrev pub open_game : List Move
open_game = move_by "e2" "e4" ∷ move_by "e7" "e5" ∷ []

-- 1 e4 a6 2 e5 d5: White may capture en passant
abbrev pub passed_pawn : List Move
passed_pawn = move_by "e2" "e4" ∷ move_by "a7" "a6" ∷ move_by "e4" "e5" ∷ move_by "d7" "d5" ∷ []

-- whether two FENs of normal chess denote the same position; `None` if one is refused
abbrev pub are_same_fens : Text → Text → Option Bool
are_same_fens text other = option_and_then
    (λ p. option_map (λ q. is_same_position p q) (result_ok (fen_reading_as Normal (codes other))))
    (result_ok (fen_reading_as Normal (codes text)))

-- positions that are the same, and some that only look alike (9.2.3)
pub record PositionsAreTheSame : Type 0 where
  pub knights : are_same_after [] knights_dance ≡ true
  -- no pawn could capture on e6
  pub target : are_same_after open_game (open_game ++ knights_dance) ≡ true
  -- White's pawn could capture on d6
  pub en_passant : are_same_after passed_pawn (passed_pawn ++ knights_dance) ≡ false
  -- White's pawn could not capture on f6: the rook pins it
  pub pinned : are_same_fens "4k3/4r3/8/4Pp2/8/8/8/4K3 w - f6 0 1" "4k3/4r3/8/4Pp2/8/8/8/4K3 w - - 0 1" ≡ Some true
  -- without the rook it could
  pub not_pinned : are_same_fens "4k3/8/8/4Pp2/8/8/8/4K3 w - f6 0 1" "4k3/8/8/4Pp2/8/8/8/4K3 w - - 0 1" ≡ Some false
  -- 1 e3 e5 2 e4: Black is on move
  pub side : are_same_after open_game (move_by "e2" "e3" ∷ move_by "e7" "e5" ∷ move_by "e3" "e4" ∷ []) ≡ false
  -- the kings went out and back, and may no longer castle
  pub rights : are_same_after open_game (open_game ++ move_by "e1" "e2" ∷ move_by "e8" "e7" ∷ move_by "e2" "e1"
      ∷ move_by "e7" "e8" ∷ []) ≡ false
  -- only one right differs
  pub queen_side : are_same_fens "4k3/8/8/8/8/8/8/R3K2R w KQ - 0 1" "4k3/8/8/8/8/8/8/R3K2R w K - 0 1" ≡ Some false
  pub king_side : are_same_fens "4k3/8/8/8/8/8/8/R3K2R w KQ - 0 1" "4k3/8/8/8/8/8/8/R3K2R w Q - 0 1" ≡ Some false
  pub black : are_same_fens "r3k2r/8/8/8/8/8/8/4K3 w kq - 0 1" "r3k2r/8/8/8/8/8/8/4K3 w k - 0 1" ≡ Some false

-- positions that are the same have the same piece, or none, on each square
abbrev pub TheSameHaveTheSamePieces : Type 0
TheSameHaveTheSamePieces = (p q : Setup) (s : ℕ) → IsTrue (is_same_position p q) → s < 64
    → man_at p.men s ≡ man_at q.men s

-- ---- FENs

-- a FEN of normal chess is refused for this fault
abbrev pub IsRefused : Text → FenFault → Type 0
IsRefused text fault = fen_reading_as Normal (codes text) ≡ Err fault

-- a FEN of normal chess is accepted
abbrev pub IsTaken : Text → Type 0
IsTaken text = is_some (result_ok (fen_reading_as Normal (codes text))) ≡ true

-- a FEN of Chess960 is accepted, and its position is written as the FEN `written`
abbrev pub IsWrittenAs : Text → Text → Type 0
IsWrittenAs text written = option_map fen (result_ok (fen_reading_as Fischerandom (codes text))) ≡ Some (codes written)

-- a FEN of Chess960 is refused for its castling field
abbrev pub HasWrongRights : Text → Type 0
HasWrongRights text = fen_reading_as Fischerandom (codes text) ≡ Err Castling

-- FENs that are refused, each for the first of its faults, and similar ones that are accepted, some with the FEN with
-- which their position is written
pub record FensAreRefused : Type 0 where
  pub no_king : IsRefused "8/8/8/8/8/8/8/4K3 w - - 0 1" Kings
  pub no_white_king : IsRefused "4k3/8/8/8/8/8/8/8 w - - 0 1" Kings
  pub two_kings : IsRefused "k6k/8/8/8/8/8/8/4K3 w - - 0 1" Kings
  pub pawn_on_8 : IsRefused "k6P/8/8/8/8/8/8/4K3 w - - 0 1" Pawns
  pub pawn_on_1 : IsRefused "k7/8/8/8/8/8/8/4K2p w - - 0 1" Pawns
  pub white_pawn_on_1 : IsRefused "k7/8/8/8/8/8/8/4K2P w - - 0 1" Pawns
  pub black_pawn_on_8 : IsRefused "k6p/8/8/8/8/8/8/4K3 w - - 0 1" Pawns
  pub seventeen : IsRefused "k7/8/8/8/8/P7/PPPPPPPP/NNNNNNNK w - - 0 1" Men
  pub sixteen : IsTaken "k7/8/8/8/8/8/PPPPPPPP/NNNNNNNK w - - 0 1"
  pub black_seventeen : IsRefused "nnnnnnnk/pppppppp/p7/8/8/8/8/4K3 w - - 0 1" Men
  pub no_rook : IsRefused "4k3/8/8/8/8/8/8/4K2N w K - 0 1" Castling
  pub no_king_on_e1 : IsRefused "4k3/8/8/8/8/8/8/3K3R w K - 0 1" Castling
  pub right : IsTaken "4k3/8/8/8/8/8/8/4K2R w K - 0 1"
  pub no_rook_on_a1 : IsRefused "4k3/8/8/8/8/8/8/4K3 w Q - 0 1" Castling
  pub no_rook_on_h8 : IsRefused "4k3/8/8/8/8/8/8/4K3 w k - 0 1" Castling
  pub no_rook_on_a8 : IsRefused "4k3/8/8/8/8/8/8/4K3 w q - 0 1" Castling
  pub all_rights : IsTaken "r3k2r/8/8/8/8/8/8/R3K2R w KQkq - 0 1"
  -- en passant targets
  pub no_pawn : IsRefused "4k3/8/8/8/8/8/8/4K3 w - e6 0 1" EnPassant
  pub start_taken : IsRefused "4k3/4q3/8/4p3/8/8/8/4K3 w - e6 0 1" EnPassant
  pub target_taken : IsRefused "4k3/8/4n3/4p3/8/8/8/4K3 w - e6 0 1" EnPassant
  pub own_pawn : IsRefused "4k3/8/8/8/4P3/8/8/4K3 w - e3 0 1" EnPassant
  pub target : IsTaken "4k3/8/8/4p3/8/8/8/4K3 w - e6 0 1"
  pub target_on_a6 : IsTaken "4k3/8/8/p7/8/8/8/4K3 w - a6 0 1"
  pub target_on_h6 : IsTaken "4k3/8/8/7p/8/8/8/4K3 w - h6 0 1"
  -- a target on rank 3 is Black's to capture on, not White's, even with a black pawn below it
  pub target_on_3 : IsTaken "4k3/8/8/8/4P3/8/8/4K3 b - e3 0 1"
  pub other_side : IsRefused "4k3/8/8/8/8/8/4p3/6K1 w - e3 0 1" EnPassant
  pub no_white_pawn : IsRefused "4k3/8/8/8/8/8/8/4K3 b - e3 0 1" EnPassant
  -- the side that is not on move is in check
  pub check : IsRefused "4k3/8/8/8/8/8/8/K3R3 w - - 0 1" Check
  pub in_check : IsTaken "4k3/8/8/8/8/8/8/K3R3 b - - 0 1"
  pub white_in_check : IsRefused "k3r3/8/8/8/8/8/8/4K3 b - - 0 1" Check
  pub nine_squares : IsRefused "4k4/8/8/8/8/8/8/4K3 w - - 0 1" Placement
  pub nine_ranks : IsRefused "4k3/8/8/8/8/8/8/8/4K3 w - - 0 1" Placement
  pub seven_squares : IsRefused "4k2/8/8/8/8/8/8/4K3 w - - 0 1" Placement
  pub seven_ranks : IsRefused "4k3/8/8/8/8/8/4K3 w - - 0 1" Placement
  pub digit_0 : IsRefused "4k30/8/8/8/8/8/8/4K3 w - - 0 1" Placement
  pub no_side : IsRefused "4k3/8/8/8/8/8/8/4K3 W - - 0 1" Side
  pub letter_twice : IsRefused "4k3/8/8/8/8/8/8/4K2R w KK - 0 1" Castling
  pub files_letter : IsRefused "4k3/8/8/8/8/8/8/4K2R w H - 0 1" Castling
  pub target_on_4 : IsRefused "4k3/8/8/8/4P3/8/8/4K3 b - e4 0 1" EnPassant
  pub counter : IsRefused "4k3/8/8/8/8/8/8/4K3 w - - 0 x" Counters
  pub one_counter : IsRefused "4k3/8/8/8/8/8/8/4K3 w - - 0" Fields
  pub seven_fields : IsRefused "4k3/8/8/8/8/8/8/4K3 w - - 0 1 1" Fields
  pub no_counters : IsTaken "4k3/8/8/8/8/8/8/4K3 w - -"
  pub counters_added : IsWrittenAs "4k3/8/8/8/8/8/8/4K3 w - -" "4k3/8/8/8/8/8/8/4K3 w - - 0 1"
  pub two_spaces : IsTaken "4k3/8/8/8/8/8/8/4K3  w - - 0  1"
  pub by_a_tab : fen_reading_as Normal (codes "4k3/8/8/8/8/8/8/4K3" ++ tab ∷ codes "w - - 0 1") ≡ Err Fields
  -- the first of several faults is reported: fields from the left, then the position's: kings, pawns, pieces, castling,
  -- en passant, check
  pub counters_before_kings : IsRefused "8/8/8/8/8/8/8/8 w - - x 1" Counters
  -- a target that is not on rank 3 or 6 is a fault of its field
  pub rank_4_before_kings : IsRefused "8/8/8/8/8/8/8/8 w - e4 0 1" EnPassant
  pub rank_5_before_kings : IsRefused "8/8/8/8/8/8/8/8 w - e5 0 1" EnPassant
  pub file_i_before_kings : IsRefused "8/8/8/8/8/8/8/8 w - i6 0 1" EnPassant
  pub kings_before_rank_3 : IsRefused "8/8/8/8/8/8/8/8 w - e3 0 1" Kings
  pub kings_before_pawns : IsRefused "P7/8/8/8/8/8/8/4K3 w - - 0 1" Kings
  pub pawns_before_pieces : IsRefused "k6P/8/8/8/8/8/PPPPPPPP/NNNNNNNK w - - 0 1" Pawns
  pub pieces_before_castling : IsRefused "k7/8/8/8/8/P7/PPPPPPPP/NNNNNNNK w K - 0 1" Men
  pub castling_before_target : IsRefused "4k3/8/8/8/8/8/8/4K3 w K e6 0 1" Castling
  pub target_before_check : IsRefused "4k3/8/8/8/8/8/8/4RK2 w - e6 0 1" EnPassant
  -- a fullmove number of 0 is taken as 1; counters have at most six digits
  pub number_0 : IsTaken "4k3/8/8/8/8/8/8/4K3 w - - 0 0"
  pub number_1 : IsWrittenAs "4k3/8/8/8/8/8/8/4K3 w - - 007 00" "4k3/8/8/8/8/8/8/4K3 w - - 7 1"
  pub six_digits : IsTaken "4k3/8/8/8/8/8/8/4K3 w - - 100000 1"
  pub seven_digits : IsRefused "4k3/8/8/8/8/8/8/4K3 w - - 0000000 1" Counters
  pub number_of_six : IsTaken "4k3/8/8/8/8/8/8/4K3 w - - 0 999999"
  pub number_of_seven : IsRefused "4k3/8/8/8/8/8/8/4K3 w - - 0 0000001" Counters
  -- in Chess960 a side's letter names the outermost rook there, and rights are written by the rooks' files
  pub outermost : IsWrittenAs "4k3/8/8/8/8/8/8/RR2K1RR w KQ - 0 1" "4k3/8/8/8/8/8/8/RR2K1RR w HA - 0 1"
  pub inner : IsWrittenAs "4k3/8/8/8/8/8/8/RR2K1RR w GB - 0 1" "4k3/8/8/8/8/8/8/RR2K1RR w GB - 0 1"
  pub on_edges : IsWrittenAs "4k3/8/8/8/8/8/8/R3K2R w HA - 0 1" "4k3/8/8/8/8/8/8/R3K2R w HA - 0 1"
  -- rights are written in the order of KQkq, whatever order was read
  pub four_rights : IsWrittenAs "r3k2r/8/8/8/8/8/8/R3K2R w qkQK - 0 1" "r3k2r/8/8/8/8/8/8/R3K2R w HAha - 0 1"
  pub no_rook_of_chess960 : HasWrongRights "4k3/8/8/8/8/8/8/4K3 w K - 0 1"
  pub named_twice : HasWrongRights "4k3/8/8/8/8/8/8/4K2R w KH - 0 1"
  pub two_on_one_side : HasWrongRights "4k3/8/8/8/8/8/8/4K1RR w HG - 0 1"
  pub no_black_rook : HasWrongRights "4k3/8/8/8/8/8/8/4K3 w k - 0 1"
  pub kings_file : HasWrongRights "4k3/8/8/8/8/8/8/4K2R w E - 0 1"
  -- a letter that names no file is a fault of its field, so it comes before kings; other wrong rights come after
  pub letter_before_kings : HasWrongRights "8/8/8/8/8/8/8/8 w I - 0 1"
  pub kings_before_rights : fen_reading_as Fischerandom (codes "8/8/8/8/8/8/8/8 w HK - 0 1") ≡ Err Kings
