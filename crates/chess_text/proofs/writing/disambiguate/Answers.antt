-- Where there are other starts and none is on the move's file, the file alone is written (file_written of Rivals). The
-- lemmas of the function's attribute `tactic` prove the other cases.
use Rattle.std.proofs.Common.{◌∙◌}
use Rattle.chess_text.proofs.Rivals.{file_written}
use Rattle.chess_text.proofs.writing.disambiguate.Goals as goal

pub returns-then-not-some_on_file : goal.returns-then-not-some_on_file
returns-then-not-some_on_file c =
    c.distinction-then-not-some_on_file.ensures
    ∙ file_written c.args.from c.file.result c.args.others c.is_empty.result c.some_on_file.result c.is_empty.ensures.none
    c.if-is_empty.false c.file.ensures.value c.some_on_file.ensures c.if-not-some_on_file.true
