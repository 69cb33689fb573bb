-- Which texts denote a position as FEN, by relations (PGN standard of 1994, section 16.1.3). One or more spaces
-- separate the fields, and may be at both ends.
use Rattle.std.specs.Prelude.{◌≡◌, ℕ, ◌+◌, ◌<◌, ◌≤◌, ◌⊎◌, List, [], ◌∷◌, length, replicate, Option, Some, None, IfSome, IsTrue, max, ◌==◌}
use Rattle.std.specs.List.{slice_split, flat_map, AllZip}
use Rattle.chess_base.specs.declared.man.Man.{Man}
use Rattle.chess_base.specs.declared.man.Variant.{Variant}
use Rattle.chess_base.specs.declared.man.Variant.TheVariants.{Normal}
use Rattle.chess_base.specs.Squares.{rank}
use Rattle.chess_base.specs.declared.setup.Setup.{Setup}
use Rattle.chess_base.specs.Letters.{letter}
use Rattle.byte_devices.specs.Bytes.{byte}
use Rattle.text_lines.specs.Words.{short_number}
use Rattle.chess_fen.specs.RightNames.{names_rights_well, rights_in}
use Rattle.chess_fen.specs.Texts.{from_top, is_castling_field, fields_of}
use Rattle.chess_fen.specs.Writing.{side_text, target_text}

-- a byte of a rank denotes these squares: a letter one with its piece, a digit n from 1 to 8 n empty ones
abbrev pub StandsFor : ℕ → List (Option Man) → Type 0
StandsFor c squares = ((man : Man) × (c ≡ letter man) × (squares ≡ Some man ∷ []))
    ⊎ ((n : ℕ) × (0 < n) × (n ≤ 8) × (c ≡ byte "0" + n) × (squares ≡ replicate n None))

-- a part of a rank's text denotes these squares: "p2" a black pawn, then two empty ones
abbrev pub DenotesSquares : List ℕ → List (Option Man) → Type 0
DenotesSquares text squares = (parts : List (List (Option Man))) × AllZip StandsFor text parts
    × (squares ≡ flat_map (λ part. part) parts)

-- the text denotes these eight squares of a rank, from file a to h
abbrev pub DenotesRank : List ℕ → List (Option Man) → Type 0
DenotesRank text row = DenotesSquares text row × (length row ≡ 8)

-- a FEN's first field denotes these pieces: eight ranks, rank 8 first, with slashes between
abbrev pub DenotesPlacement : List ℕ → List (Option Man) → Type 0
DenotesPlacement text men = (rows : List (List (Option Man))) × (length rows ≡ 8)
    × AllZip DenotesRank (slice_split (λ c. c == byte "/") text) rows × (men ≡ from_top rows)

-- a FEN's fourth field denotes this en passant target: none by a dash, a square of rank 3 or 6 by its name
abbrev pub DenotesTarget : List ℕ → Option ℕ → Type 0
DenotesTarget text target = (text ≡ target_text target)
    × IfSome target (λ square. (rank square ≡ 2) ⊎ (rank square ≡ 5))

-- the fields after the target denote halfmove clock and fullmove number: none (then 0 and 1), or both, each of 1 to 6
-- digits; a fullmove number of 0 is read as 1
abbrev pub DenotesCounters : List (List ℕ) → ℕ → ℕ → Type 0
DenotesCounters [] halfmove fullmove = (halfmove ≡ 0) × (fullmove ≡ 1)
DenotesCounters (a ∷ []) halfmove fullmove = ⊥
DenotesCounters (a ∷ b ∷ []) halfmove fullmove =
    (short_number 6 a ≡ Some halfmove) × ((n : ℕ) × (short_number 6 b ≡ Some n) × (fullmove ≡ max n 1))
DenotesCounters (a ∷ b ∷ c ∷ more) halfmove fullmove = ⊥

-- the fields of a FEN of variant v denote position p, sound or not: a the pieces, b the side, c the rights, d the
-- target, `counters_text` the two counters, if any
pub record DenotesFields (v : Variant) (a b c d : List ℕ) (counters_text : List (List ℕ)) (p : Setup) : Type 0 where
  pub variant : p.variant ≡ v
  pub men : DenotesPlacement a p.men
  pub side : b ≡ side_text p.side
  -- the form of c; which rights it names depends on the pieces
  pub castling : IsTrue (is_castling_field v c)
  pub rights : p.rights ≡ rights_in v p.men c
  pub target : DenotesTarget d p.target
  pub counters : DenotesCounters counters_text p.halfmove p.fullmove

-- the text's fields, c that of castling, denote position p, sound or not, as a FEN of variant v
abbrev pub DenotesText : Variant → List ℕ → List ℕ → Setup → Type 0
DenotesText v text c p = (a : List ℕ) × (b : List ℕ) × (d : List ℕ) × (more : List (List ℕ))
    × (fields_of text ≡ a ∷ b ∷ c ∷ d ∷ more) × DenotesFields v a b c d more p

-- the text denotes position p, sound or not, as a FEN of variant v, naming no castling right wrongly
abbrev pub DenotesFenAs : Variant → List ℕ → Setup → Type 0
DenotesFenAs v text p = (castling : List ℕ) × DenotesText v text castling p
    × IsTrue (names_rights_well p.variant p.men castling)

-- the text denotes position p, sound or not, as a FEN of normal chess
abbrev pub DenotesFen : List ℕ → Setup → Type 0
DenotesFen text p = DenotesFenAs Normal text p
