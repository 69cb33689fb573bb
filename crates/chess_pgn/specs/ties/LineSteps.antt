-- What the reader of variations answers, step by step, in the words of the definitions.
use Rattle.std.specs.Prelude.{◌≡◌, ◌⊎◌, ℕ, zero, suc, ◌-◌, ◌<◌, ◌≤◌, true, false, ◌∷◌, [], List, length, Option, Some, None, Result, Ok, Err}
use Rattle.chess_base.specs.declared.setup.Setup.{Setup}
use Rattle.chess_pgn.specs.declared.read.PgnFault.{PgnFault}
use Rattle.chess_pgn.specs.declared.read.PgnFaultKind.TheVariants.{BadToken, TooLong}
use Rattle.pgn_tokens.specs.declared.token.Token as code
use Rattle.pgn_tokens.specs.Tokens.{Token, Skip, Tag, Word, tokens_from}
use Rattle.chess_pgn.specs.Variations.{variation_fault}
use Rattle.chess_pgn.specs.laws.LineEnds.{is_end}
use Rattle.pgn_tokens.specs.Seen.{token_seen}

-- this token is what can't be read: a bad tag, an unclosed comment or variation, or a byte that begins no token
abbrev pub IsUnread : Token → Type 0
IsUnread Skip = ⊥
IsUnread (Tag name text to_end) = ⊥
IsUnread (Word word) = ⊥
IsUnread _ = Unit {0}

-- from the offset `at` on a line ends: at the text's end, or at a `)`, which can't be read
abbrev pub EndsLine : List ℕ → ℕ → Type 0
EndsLine text at = (tokens_from text at ≡ []) ⊎ ((t : Token) × (tokens_from text at ≡ (length text - at, t) ∷ [])
    × IsUnread t × (is_end text at t ≡ true))

-- what the code returned for a line's token at the offset `at` agrees with the definitions: `None` if the line ends
-- there; the first token, and the offset after it; or the fault BadToken, at what can't be read and ends no line
abbrev pub IsLineToken : List ℕ → ℕ → Result (Option (code.Token × ℕ)) PgnFault → Type 0
IsLineToken text at (Ok None) = EndsLine text at
IsLineToken text at (Ok (Some r)) = (tokens_from text at ≡ (length text - at, token_seen r.0) ∷ tokens_from text r.1)
    × (at < r.1) × (r.1 ≤ length text)
IsLineToken text at (Err fault) = (fault ≡ record { kind = BadToken; offset = at })
    × ((t : Token) × (tokens_from text at ≡ (length text - at, t) ∷ []) × IsUnread t × (is_end text at t ≡ false))

-- the first fault of a line from a token on, by what the code did with that token: it passed over it, made a move in
-- the position `p`, or returned a fault. `before`: the position before the last move until then; `q`: the position
-- after the token; `later`: the fault from the next token on
abbrev pub played : Option Setup → Result (Option Setup) PgnFault → Setup → (Option Setup → Setup → Option PgnFault)
    → Option PgnFault
played before (Ok None) q later = later before q
played before (Ok (Some p)) q later = later (Some p) q
played before (Err fault) q later = Some fault

-- the position in which the moves of a variation at the offset `at` begin, and how many variations may be open in it.
-- `before` is the position before the move that it replaces (`None`, a fault: there is no such move), and `depth` how
-- many may be open in the line that it is in (0: a fault)
abbrev pub opening : ℕ → Option Setup → ℕ → Result (Setup × ℕ) PgnFault
opening depth None at = Err (record { kind = BadToken; offset = at })
opening zero (Some start) at = Err (record { kind = TooLong; offset = at })
opening (suc depth) (Some start) at = Ok (start, depth)

-- the first fault of the variation whose `(` is at the offset `from`, and whose moves begin in the position `p`;
-- `depth`: how many variations may be open inside it
abbrev pub inside : ℕ → List ℕ → Setup → ℕ → Option PgnFault
inside depth text = λ p from. variation_fault tokens_from depth text p from
