-- All bytes of the text are ASCII: it is the text of the definition, appended part by part, and of that all bytes are
-- ASCII (LevelTexts.level_ascii), since the level's numbers are within their bounds.
use Rattle.std.proofs.Common.{◌≡◌, sym, subst, append_assoc, arith, IsAscii}
use Rattle.cecp_engine.specs.Levels.{level_text}
use Rattle.cecp_engine.proofs.LevelTexts.{level_ascii}
use Rattle.cecp_engine.proofs.level.Level.text.Goals as goal

pub returns-clause-ascii : goal.returns-clause-ascii
unfolding level_text
returns-clause-ascii c =
    let m = c.moves.ensures.value in
    let b = c.base_milliseconds.ensures.value in
    let i = c.increment_milliseconds.ensures.value in
    let is : c.append_increment.new.text.items ≡ level_text c.args.self =
    rw (
      c.append_increment.ensures.text,
      c.append-2.ensures.text,
      c.append_base.ensures.text,
      c.append.ensures.text,
      c.append_number.ensures.text,
      c.new-text.ensures,
      c.from.ensures,
      m,
      b,
      i,
    )
    (simp append_assoc) in
    subst IsAscii (sym is) (level_ascii c.args.self (record {
      moves = omega (arith, m, c.moves.ensures.few);
      base = omega (arith, b, c.base_milliseconds.ensures.few);
      increment = omega (arith, i, c.increment_milliseconds.ensures.few);
    }))
