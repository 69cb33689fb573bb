-- The text of a level is ASCII, hence UTF-8, so it can be written as a string, and the branch for a text that is no
-- UTF-8 is never reached.
use Rattle.std.proofs.{Common.sym, Common.subst, Common.IsUtf8, lemmas.Str.IsUtf8-from_ascii}
use Rattle.cecp_engine.proofs.level_text.LevelDisplay.fmt.Goals as goal

pub unreachable-requires : goal.unreachable-requires
unreachable-requires g c =
    c.in-Err.ensures.cases.0 (subst IsUtf8 (sym c.as_slice.ensures.value)
    (IsUtf8-from_ascii c.text-text.result.items c.text-text.ensures.ascii))
