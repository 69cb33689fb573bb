-- If the first field denotes no pieces and the others have a right number, that field is the first fault, in either
-- variant (setup-menless of FirstField).
use Rattle.std.proofs.Common.{ap, ◌∙◌}
use Rattle.chess_fen.specs.{ties.Reader.setup_in, Texts.fields_of}
use Rattle.chess_fen.proofs.FirstField.{setup-menless}
use Rattle.chess_fen.proofs.reading.no_pieces_fault.Goals as goal

pub returns-in-Some-read_fields : goal.returns-in-Some-read_fields
returns-in-Some-read_fields c = λ v.
    (let field = c.in-Some.field-0-0.now in
    let f = c.in-Some-read_fields.field-0 in
    ap (setup_in v) c.in-Some.ensures.found
    ∙ c.in-Some-read_fields.ensures v field
    ∙ setup-menless v field f.side.now f.castling.now f.target.now f.halfmove.now f.fullmove.now
    (c.requires field (fields_of c.in-Some.rest.now) c.in-Some.ensures.found))
