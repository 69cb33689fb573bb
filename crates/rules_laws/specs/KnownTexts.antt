-- Known moves and games as SAN and PGN write them (PGN standard of 1994).
use Rattle.std.specs.Prelude.{◌≡◌, ℕ, Bool, true, false, not, ◌&&◌, List, [], ◌∷◌, codes, option_map, replicate, take, drop, Option, None, Some}
use Prim.Native.String.{String as Text}
use Rattle.std.specs.List.{list_all, list_any}
use Rattle.std.specs.Result.{result_ok}
use Rattle.byte_devices.specs.Bytes.{byte}
use Rattle.chess_base.specs.declared.man.Kind.TheVariants.{Knight}
use Rattle.chess_base.specs.declared.man.Move.{Move}
use Rattle.chess_base.specs.declared.man.Variant.{Variant}
use Rattle.chess_base.specs.declared.man.Variant.TheVariants.{Normal, Fischerandom}
use Rattle.chess_base.specs.Initial.{initial_setup, initial_setup_of}
use Rattle.chess_fen.specs.Reading.{fen_reading_as}
use Rattle.chess_game.specs.Ends.{draw_claim, result_text, verdict_result}
use Rattle.chess_game.specs.Game.{State, from_start}
use Rattle.chess_game.specs.Results.{cut_tag}
use Rattle.chess_game.specs.declared.results.Outcome.{Outcome}
use Rattle.chess_game.specs.declared.results.Outcome.TheVariants.{WhiteWins, BlackWins, Draw, Unfinished}
use Rattle.chess_game.specs.declared.tags.HowEnded.{HowEnded}
use Rattle.chess_game.specs.declared.tags.HowEnded.TheVariants as how
use Rattle.chess_game.specs.declared.verdicts.DrawClaim.{DrawClaim}
use Rattle.chess_game.specs.declared.verdicts.DrawClaim.TheVariants.{Threefold, FiftyMoves}
use Rattle.chess_game.specs.declared.verdicts.Verdict.{Verdict}
use Rattle.chess_game.specs.declared.verdicts.Verdict.TheVariants.{WhiteMates, BlackMates, Stalemate, InsufficientMaterial, FivefoldRepetition, SeventyFiveMoves}
use Rattle.chess_text.specs.Moves.{denotes}
use Rattle.chess_text.specs.San.{san, shown_move}
use Rattle.pgn_writer.specs.GameText.{game_tokens, move_tokens, tag_lines}
use Rattle.pgn_writer.specs.Terminations.{termination_of, termination_text}
use Rattle.pgn_writer.specs.declared.tags.Tags.{Tags}
use Rattle.rules_laws.specs.KnownGames.{fools_mate, move_by}
use Rattle.rules_laws.specs.KnownPositions.{promotes}
use Rattle.rules_laws.specs.Names.{square}

-- ---- SAN

-- the SAN of a move in the position of a FEN of normal chess; `None` if the FEN is refused
abbrev pub san_in : Text → Move → Option (List ℕ)
san_in text m = option_map (λ p. san p m) (result_ok (fen_reading_as Normal (codes text)))

-- in the position of this FEN of normal chess, which is accepted, the move's SAN is `written`
abbrev pub IsWritten : Text → Move → Text → Type 0
IsWritten text m written = san_in text m ≡ Some (codes written)

-- the move between two named squares with promotion to a knight
abbrev pub becomes_knight : Text → Text → Move
becomes_knight from to = record { from = square from; to = square to; promotion = Some Knight }

-- moves and their SAN (section 8.2.3)
pub record MovesAreWritten : Type 0 where
  -- two knights on different files, two rooks on one file, and a queen with one on her file and one on her rank
  pub file : IsWritten "4k3/8/8/8/8/5N2/8/1N2K3 w - - 0 1" (move_by "b1" "d2") "Nbd2"
  pub rank : IsWritten "4k3/8/8/R7/8/8/8/R3K3 w - - 0 1" (move_by "a1" "a3") "R1a3"
  pub both : IsWritten "1k6/8/8/8/4Q2Q/8/K7/7Q w - - 0 1" (move_by "h4" "e1") "Qh4e1"
  -- the knight on e2 is pinned, so it is no rival
  pub pinned : IsWritten "4r2k/8/8/8/8/8/4N3/1N2K3 w - - 0 1" (move_by "b1" "c3") "Nc3"
  pub capture : IsWritten "4k3/8/8/3p4/4P3/8/8/4K3 w - - 0 1" (move_by "e4" "d5") "exd5"
  pub promotion : IsWritten "4k3/P7/8/8/8/8/8/4K3 w - - 0 1" (promotes "a7" "a8") "a8=Q+"
  pub castling : IsWritten "4k3/8/8/8/8/8/8/R3K3 w Q - 0 1" (move_by "e1" "c1") "O-O-O"
  pub castling_check : IsWritten "5k2/8/8/8/8/8/8/4K2R w K - 0 1" (move_by "e1" "g1") "O-O+"
  pub mate : IsWritten "6k1/5ppp/8/8/8/8/8/R3K3 w - - 0 1" (move_by "a1" "a8") "Ra8#"
  pub stalemate : IsWritten "7k/8/6K1/8/8/8/8/5Q2 w - - 0 1" (move_by "f1" "f7") "Qf7"
  pub knight_captures : IsWritten "4k3/8/8/4p3/8/5N2/8/4K3 w - - 0 1" (move_by "f3" "e5") "Nxe5"
  pub en_passant : IsWritten "4k3/8/8/3pP3/8/8/8/4K3 w - d6 0 1" (move_by "e5" "d6") "exd6"
  pub to_knight : IsWritten "1r2k3/P7/8/8/8/8/8/4K3 w - - 0 1" (becomes_knight "a7" "b8") "axb8=N"

-- a move's text by its squares (or `O-O` and `O-O-O` in Chess960) in the position of a FEN of variant v; `None` if the
-- FEN is refused
abbrev pub shown_in : Variant → Text → Move → Option (List ℕ)
shown_in v text m = option_map (λ p. shown_move p m) (result_ok (fen_reading_as v (codes text)))

-- in the position of this FEN of variant v, which is accepted, `shown` is the move's text by its squares
abbrev pub IsShown : Variant → Text → Move → Text → Type 0
IsShown v text m shown = shown_in v text m ≡ Some (codes shown)

-- moves by their squares, as engines without SAN are sent them (CECP, version 2: section 8)
pub record MovesAreShown : Type 0 where
  pub castling : IsShown Normal "5k2/8/8/8/8/8/8/4K2R w K - 0 1" (move_by "e1" "g1") "e1g1"
  pub promotion : IsShown Normal "4k3/P7/8/8/8/8/8/4K3 w - - 0 1" (promotes "a7" "a8") "a7a8q"
  -- in Chess960 only castling has a text of its own
  pub king_side : IsShown Fischerandom "5k2/8/8/8/8/8/8/4K2R w K - 0 1" (move_by "e1" "h1") "O-O"
  pub queen_side : IsShown Fischerandom "3rk3/8/8/8/8/8/8/RK6 w Q - 0 1" (move_by "b1" "a1") "O-O-O"
  pub king : IsShown Fischerandom "5k2/8/8/8/8/8/8/4K2R w K - 0 1" (move_by "e1" "f1") "e1f1"

-- in the position of a FEN of variant v the move is denoted by each of `texts` and by none of `others`
abbrev pub AreTextsAs : Variant → Text → Move → List (List ℕ) → List (List ℕ) → Type 0
AreTextsAs v text m texts others = option_map
    (λ p. list_all (λ w. denotes p w m) texts && not (list_any (λ w. denotes p w m) others))
    (result_ok (fen_reading_as v (codes text))) ≡ Some true

-- in the position of a FEN of normal chess the move is denoted by each of the first texts and by none of the others
abbrev pub AreItsTexts : Text → Move → List (List ℕ) → List (List ℕ) → Type 0
AreItsTexts = AreTextsAs Normal

-- for each of nine moves, texts that denote it, its SAN among them, and others that don't
pub record TextsDenoteMoves : Type 0 where
  pub capture : AreItsTexts "4k3/8/8/3p4/4P3/8/8/4K3 w - - 0 1" (move_by "e4" "d5")
      (codes "exd5" ∷ codes "ed5" ∷ codes "e4d5" ∷ codes "e4xd5" ∷ codes "exd5!?" ∷ codes "exd5+" ∷ [])
      (codes "d5" ∷ codes "dxe4" ∷ codes "exd6" ∷ codes "Exd5" ∷ codes "exd5=Q" ∷ [])
  -- which of two knights goes may be left out or said in full
  pub knight : AreItsTexts "4k3/8/8/8/8/5N2/8/1N2K3 w - - 0 1" (move_by "b1" "d2")
      (codes "Nbd2" ∷ codes "N1d2" ∷ codes "Nb1d2" ∷ codes "Nd2" ∷ codes "b1d2" ∷ [])
      (codes "Nfd2" ∷ codes "N3d2" ∷ codes "Nbxd2" ∷ codes "nbd2" ∷ codes "d2" ∷ [])
  pub promotion : AreItsTexts "4k3/P7/8/8/8/8/8/4K3 w - - 0 1" (promotes "a7" "a8")
      (codes "a8=Q+" ∷ codes "a8=Q" ∷ codes "a8Q" ∷ codes "a8q" ∷ codes "a8=q" ∷ codes "a7a8q" ∷ [])
      (codes "a8" ∷ codes "a7a8" ∷ codes "a8=N" ∷ codes "a8==Q" ∷ [])
  pub castling : AreItsTexts "4k3/8/8/8/8/8/8/R3K3 w Q - 0 1" (move_by "e1" "c1")
      (codes "O-O-O" ∷ codes "0-0-0" ∷ codes "e1c1" ∷ []) (codes "O-O" ∷ codes "o-o-o" ∷ codes "Kc1" ∷ [])
  pub king_side : AreItsTexts "4k3/8/8/8/8/8/8/4K2R w K - 0 1" (move_by "e1" "g1")
      (codes "O-O" ∷ codes "0-0" ∷ codes "e1g1" ∷ []) (codes "O-O-O" ∷ codes "0-0-0" ∷ codes "Kg1" ∷ [])
  -- in Chess960 castling is named by the squares of king and rook
  pub chess960 : AreTextsAs Fischerandom "4k3/8/8/8/8/8/8/4K2R w K - 0 1" (move_by "e1" "h1")
      (codes "O-O" ∷ codes "0-0" ∷ codes "e1h1" ∷ []) (codes "O-O-O" ∷ codes "e1g1" ∷ codes "Kh1" ∷ [])
  pub knight_captures : AreItsTexts "4k3/8/8/4p3/8/5N2/8/4K3 w - - 0 1" (move_by "f3" "e5")
      (codes "Nxe5" ∷ codes "Ne5" ∷ codes "Nfxe5" ∷ codes "N3xe5" ∷ codes "Nf3xe5" ∷ codes "f3e5" ∷ [])
      (codes "xe5" ∷ codes "fxe5" ∷ codes "f3xe5" ∷ codes "Bxe5" ∷ [])
  pub en_passant : AreItsTexts "4k3/8/8/3pP3/8/8/8/4K3 w - d6 0 1" (move_by "e5" "d6")
      (codes "exd6" ∷ codes "ed6" ∷ codes "e5xd6" ∷ codes "e5d6" ∷ []) (codes "d6" ∷ codes "exd5" ∷ [])
  pub to_knight : AreItsTexts "1r2k3/P7/8/8/8/8/8/4K3 w - - 0 1" (becomes_knight "a7" "b8")
      (codes "axb8=N" ∷ codes "axb8N" ∷ codes "ab8=n" ∷ codes "a7xb8=N" ∷ codes "a7b8n" ∷ [])
      (codes "b8=N" ∷ codes "axb8" ∷ codes "axb8=Q" ∷ codes "axb8=K" ∷ [])

-- ---- results

-- a verdict's result is written as this text
abbrev pub IsWorded : Verdict → Text → Type 0
IsWorded v text = result_text (verdict_result v) ≡ codes text

-- the claim by which a draw is declared, if any, where these claims hold
abbrev pub claimed : (threefold fifty_moves : Bool) → Option DrawClaim
claimed threefold fifty_moves = draw_claim (record { threefold = threefold; fifty_moves = fifty_moves })

-- how verdicts are written, and which draw is declared if both can be claimed: threefold repetition
pub record ResultsAreWorded : Type 0 where
  pub white_mates : IsWorded WhiteMates "1-0 {White mates}"
  pub black_mates : IsWorded BlackMates "0-1 {Black mates}"
  pub stalemate : IsWorded Stalemate "1/2-1/2 {Stalemate}"
  pub insufficient : IsWorded InsufficientMaterial "1/2-1/2 {Insufficient material}"
  pub fivefold : IsWorded FivefoldRepetition "1/2-1/2 {Fivefold repetition}"
  pub seventy_five_moves : IsWorded SeventyFiveMoves "1/2-1/2 {75-move rule}"
  pub no_claim : claimed false false ≡ None
  pub threefold : claimed true false ≡ Some Threefold
  pub fifty_moves : claimed false true ≡ Some FiftyMoves
  pub both : claimed true true ≡ Some Threefold

-- ---- PGN

-- the PGN tokens (move numbers, moves, result) of the game by these moves from the position of a FEN of normal chess;
-- `None` if the FEN is refused
abbrev pub tokens_from : Text → List Move → Option (List (List ℕ))
tokens_from text ms = option_map (λ p. game_tokens (record { start = p; moves = ms; declared = None }))
    (result_ok (fen_reading_as Normal (codes text)))

-- how moves are numbered in PGN (section 8.2.2), in three games
pub record MovesAreNumbered : Type 0 where
  -- the fool's mate: only White's moves have numbers
  pub white_first : move_tokens initial_setup fools_mate
      ≡ codes "1." ∷ codes "f3" ∷ codes "e5" ∷ codes "2." ∷ codes "g4" ∷ codes "Qh4#" ∷ []
  -- a game that Black begins: that move has a number too
  pub black_first : tokens_from "4k3/4P3/8/8/8/8/8/4K3 b - - 0 12" (move_by "e8" "e7" ∷ [])
      ≡ Some (codes "12..." ∷ codes "Kxe7" ∷ codes "1/2-1/2" ∷ [])
  pub no_move : tokens_from "4k3/4P3/8/8/8/8/8/4K3 b - - 0 12" [] ≡ Some (codes "*" ∷ [])

-- the tags of a game between A and B
abbrev pub known_tags : Tags
known_tags = record {
  event = codes "Casual game";
  site = codes "?";
  date = codes "2024.12.31";
  round = codes "-";
  white = codes "A";
  black = codes "B";
  ended = how.Normal;
}

-- the lines of a game's tags after that of the tag Black
abbrev pub last_tags : State → List (List ℕ)
last_tags s = drop 6 (tag_lines known_tags s)

-- a game with this end and this outcome has this text as its tag Termination
abbrev pub IsTermination : HowEnded → Outcome → Text → Type 0
IsTermination ended outcome text = termination_text (termination_of ended outcome) ≡ codes text

-- the tags of games between A and B are these lines; what the tag Termination says; and how a tag's text is cut
pub record TagsAreInOrder : Type 0 where
  -- the first six of each game (section 8.1.1)
  pub first : (s : State) → take 6 (tag_lines known_tags s)
      ≡ codes "[Event \"Casual game\"]" ∷ codes "[Site \"?\"]" ∷ codes "[Date \"2024.12.31\"]"
      ∷ codes "[Round \"-\"]" ∷ codes "[White \"A\"]" ∷ codes "[Black \"B\"]" ∷ []
  -- the others of a mate from another position, and of an unfinished game of Chess960 (sections 9.7 and 9.8.1)
  pub mate : option_map (λ p. last_tags (from_start p))
      (result_ok (fen_reading_as Normal (codes "7k/6Q1/6K1/8/8/8/8/8 b - - 0 1")))
      ≡ Some (codes "[Result \"1-0\"]" ∷ codes "[FEN \"7k/6Q1/6K1/8/8/8/8/8 b - - 0 1\"]"
      ∷ codes "[SetUp \"1\"]" ∷ codes "[Termination \"normal\"]" ∷ [])
  pub chess960 : last_tags (from_start (initial_setup_of Fischerandom))
      ≡ codes "[Result \"*\"]" ∷ codes "[FEN \"rnbqkbnr/pppppppp/8/8/8/8/PPPPPPPP/RNBQKBNR w HAha - 0 1\"]"
      ∷ codes "[SetUp \"1\"]" ∷ codes "[Termination \"unterminated\"]" ∷ codes "[Variant \"fischerandom\"]" ∷ []
  -- in normal chess from the initial position there is no FEN
  pub normal : last_tags (from_start initial_setup)
      ≡ codes "[Result \"*\"]" ∷ codes "[Termination \"unterminated\"]" ∷ []
  -- ends of games (section 9.8.1)
  pub won : IsTermination how.Normal WhiteWins "normal"
  pub lost_on_time : IsTermination how.TimeForfeit BlackWins "time forfeit"
  pub drawn_on_time : IsTermination how.TimeForfeit Draw "time forfeit"
  pub against_the_rules : IsTermination how.RulesInfraction WhiteWins "rules infraction"
  pub unfinished : IsTermination how.TimeForfeit Unfinished "unterminated"
  -- a tag's text is cut to 60 bytes, with `?` for each that is not printable ASCII (32 to 126)
  pub sixty : cut_tag (replicate 61 (byte "a")) ≡ replicate 60 (byte "a")
  pub printable : cut_tag (31 ∷ 32 ∷ 126 ∷ 127 ∷ []) ≡ codes "? ~?"
