-- Each token of a playable game has 1 to 79 bytes, so it fits into a line (game_is_short): the outcome, a number (at
-- most 999999, and its dots) and the SAN of a legal move (two to seven bytes, by san_short). By induction on the moves.
use Rattle.std.proofs.Common.{◌≡◌, append_assoc, ℕ, ◌+◌, ◌≤◌, Bool, true, false, List, [], ◌∷◌, ◌++◌, length, arith, leb-true, length-append, codes, decimal}
use Rattle.std.proofs.lemmas.Fmt.{length-decimal-le}
use Rattle.chess_base.specs.{declared.man.Colour.Colour, declared.man.Colour.TheVariants.White, declared.man.Colour.TheVariants.Black, declared.man.Move.Move, declared.setup.Setup.Setup, Moves.after, Sound.IsSound}
use Rattle.chess_game.specs.{Game.Seen, Game.outcome_now, Game.IsPlayable, Line.IsLine, Results.outcome_text, declared.results.Outcome.Outcome}
use Rattle.chess_game.specs.declared.results.Outcome.TheVariants.{WhiteWins, BlackWins, Draw, Unfinished}
use Rattle.pgn_writer.specs.{GameText.game_tokens, shared.NumberedMoves.number_if_due, shared.NumberedMoves.numbered_moves, laws.Layout.AreShort}
use Rattle.chess_text.specs.San.{san}
use Rattle.chess_base.proofs.shared.LegalMoves.{IsSound-after}
use Rattle.chess_text.proofs.shared.San.{san_short}
use Rattle.pgn_writer.proofs.NumberedMoves.{game_numbered}

short_outcome : (o : Outcome) → AreShort (outcome_text o ∷ [])
short_outcome WhiteWins = ((omega arith, omega arith), tt)
short_outcome BlackWins = ((omega arith, omega arith), tt)
short_outcome Draw = ((omega arith, omega arith), tt)
short_outcome Unfinished = ((omega arith, omega arith), tt)

-- a number before short tokens; a move of Black after the first has none
short_number : (c : Colour) (is_first : Bool) (n : ℕ) (ts : List (List ℕ)) → n ≤ 999999 → AreShort ts
    → AreShort (number_if_due c is_first n ++ ts)
short_number White is_first n ts h rest =
    let digits : length (decimal n) ≤ 10 = length-decimal-le 10 n (omega arith) (omega (arith, h)) (omega arith) in
    let all : length (decimal n ++ codes ".") ≡ length (decimal n) + 1 = length-append (decimal n) (codes ".") in
    ((omega (arith, all), omega (arith, all, digits)), rest)
short_number Black true n ts h rest =
    let digits : length (decimal n) ≤ 10 = length-decimal-le 10 n (omega arith) (omega (arith, h)) (omega arith) in
    let all : length (decimal n ++ codes "...") ≡ length (decimal n) + 3 = length-append (decimal n) (codes "...") in
    ((omega (arith, all), omega (arith, all, digits)), rest)
short_number Black false n ts h rest = rest

-- the tokens of the moves of a line from a sound position, before short tokens
short_moves : (is_first : Bool) (p : Setup) (ms : List Move) (ts : List (List ℕ)) → IsSound p → IsLine p ms
    → AreShort ts → AreShort (numbered_moves is_first p ms ++ ts)
short_moves is_first p [] ts sound line rest = rest
short_moves is_first p (m ∷ ms) ts sound line rest =
    let tail = short_moves false (after p m) ms ts (IsSound-after p m sound line.0) line.1 rest in
    let short = san_short p m sound line.0 in
    let tokens : numbered_moves is_first p (m ∷ ms) ++ ts ≡ number_if_due p.side is_first p.fullmove
    ++ san p m ∷ (numbered_moves false (after p m) ms ++ ts) = simp append_assoc in
    rw tokens (short_number p.side is_first p.fullmove _ (leb-true _ _ sound.fullmove_high)
    ((omega (arith, short.0), omega (arith, short.1)), tail))

pub game_is_short : (game : Seen) → IsPlayable game → AreShort (game_tokens game.state)
game_is_short game playable =
    let s = game.state in
    rw (game_numbered s) (short_moves true s.start s.moves (outcome_text (outcome_now s) ∷ []) playable.start playable.line
    (short_outcome (outcome_now s)))
