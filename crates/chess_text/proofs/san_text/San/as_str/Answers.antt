-- SAN is ASCII by the type's invariant, and so UTF-8: `from_utf8` never fails, and the `unreachable!` isn't reached.
use Rattle.std.proofs.lemmas.Str.{IsUtf8-from_ascii}
use Rattle.chess_text.proofs.san_text.San.as_str.Goals as goal

pub unreachable-requires : goal.unreachable-requires
unreachable-requires c = c.in-Err.ensures.cases.0
    (rw c.as_bytes.ensures.value (IsUtf8-from_ascii c.args.self.now c.as_bytes.ensures.ascii))
