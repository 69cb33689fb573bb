-- At most 60 bytes were taken over, each printable or replaced (tag_text_is of TagTexts); the lesser of 60 and the
-- text's length cuts the same as 60.
use Rattle.std.proofs.{Common.ap, Common.map, Common.arith, lemmas.List.take_min}
use Rattle.byte_devices.specs.Bytes.{shown_byte}
use Rattle.chess_game.proofs.TagTexts.{tag_text_is}
use Rattle.chess_game.proofs.tags.TagText.cut.Goals as goal

pub invariant_of-result : goal.invariant_of-result
invariant_of-result c = tag_text_is c.args.text.now c.tag_bytes.result.items c.min.result (omega arith)
    c.tag_bytes.ensures

pub returns : goal.returns
returns c = rw (c.tag_bytes.ensures, c.min.ensures) (ap (map shown_byte) (take_min 60 c.args.text.now))
