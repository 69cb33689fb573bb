-- What a word gives if taken as a move.
use Rattle.std.specs.Prelude.{Option}
use Rattle.std.specs.Option.{option_map_or, unwrap_or}
use Rattle.chess_base.specs.declared.man.Move.{Move}
use Rattle.chess_text.specs.declared.reading.Reading.{Reading}
use Rattle.chess_text.specs.declared.reading.Reading.TheVariants as reads
use Rattle.chess_pgn.specs.declared.read.PgnFaultKind.{PgnFaultKind}
use Rattle.chess_pgn.specs.declared.read.PgnFaultKind.TheVariants.{BadToken, IllegalMove, AmbiguousMove}

-- what a word that should be a move gives, by its reading (the last argument): `made m` if it is a legal move m and a
-- move may come here (`closed` is `None`), otherwise `failed` of its fault. This is `BadToken` without a move's shape,
-- as in `Nf9`; otherwise that in `closed`, such as `AfterEnd` after mate; without it `AmbiguousMove` or `IllegalMove`
abbrev pub word_gives : {A : Type 0} → Option PgnFaultKind → (Move → A) → (PgnFaultKind → A) → Reading → A
word_gives closed made failed reads.NotAMove = failed BadToken
word_gives closed made failed (reads.Move m) = option_map_or failed closed (made m)
word_gives closed made failed reads.Ambiguous = failed (unwrap_or closed AmbiguousMove)
word_gives closed made failed reads.NoSuch = failed (unwrap_or closed IllegalMove)
