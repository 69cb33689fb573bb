-- By the ways in which the function ends. If no pieces are read, the text's first field denotes none, as
-- `no_pieces_fault` requires (first_is_menless of FirstField). Otherwise the text's fields are that first one and those
-- of the rest (fields-read): these have a wrong number, or are read with the pieces as all six are (setup-with).
use Rattle.std.proofs.Common.{ap, sym, ◌∙◌, ◌==◌}
use Rattle.std.specs.List.{before_first}
use Rattle.chess_fen.specs.{ties.Reader.setup_in, Texts.fields_of}
use Rattle.chess_fen.proofs.{FirstField.first_is_menless, FirstField.fields-read, FirstField.setup-with, CutFields.fields_of-skip}
use Rattle.chess_fen.proofs.reading.read_setup.Goals as goal

pub no_pieces_fault-requires : goal.no_pieces_fault-requires
no_pieces_fault-requires c =
    λ field fields all.
    first_is_menless c.args.text.now c.skip_spaces-front.result.now c.skip_spaces-front.ensures
    c.in_default.ensures.none
    field fields (fields_of-skip c.args.text.now ∙ ap fields_of (sym c.skip_spaces-front.ensures) ∙ all)

pub returns-in_default : goal.returns-in_default
returns-in_default c =
    sym (ap (setup_in c.args.variant) (fields_of-skip c.args.text.now ∙ ap fields_of (sym c.skip_spaces-front.ensures))
    ∙ c.no_pieces_fault.ensures c.args.variant)

pub returns-in-None : goal.returns-in-None
returns-in-None c =
    let front = c.skip_spaces-front.result.now in
    sym (ap (setup_in c.args.variant) (fields-read c.args.text.now front c.read_placement.new.men c.in-Some.rest.now
    c.skip_spaces-front.ensures c.in-Some.ensures.read)
    ∙ c.in-None.ensures c.args.variant (before_first (λ b. b == 32) front))

pub returns-in-Some-read_fields : goal.returns-in-Some-read_fields
returns-in-Some-read_fields c =
    let front = c.skip_spaces-front.result.now in
    let first = before_first (λ b. b == 32) front in
    let f = c.in-Some-read_fields.fields in
    c.setup_with.ensures
    ∙ sym (ap (setup_in c.args.variant) (fields-read c.args.text.now front c.read_placement.new.men c.in-Some.rest.now
    c.skip_spaces-front.ensures c.in-Some.ensures.read)
    ∙ c.in-Some-read_fields.ensures c.args.variant first
    ∙ setup-with c.args.variant first f.side.now f.castling.now f.target.now f.halfmove.now f.fullmove.now
    c.read_placement.new.men c.in-Some.ensures.read.denotes)
