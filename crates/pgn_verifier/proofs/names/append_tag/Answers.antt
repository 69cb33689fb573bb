-- What a line shows is taken from the last tag with this name, as defined, or is `?` if there is none
-- (NamesShown.shown_is).
use Rattle.std.proofs.Common.{◌++◌, sym, ap, ◌∙◌, option_map}
use Rattle.byte_devices.specs.Bytes.{after_byte_order_mark}
use Rattle.pgn_verifier.proofs.NamesShown.{shown_or, shown_is}
use Rattle.pgn_verifier.proofs.names.append_tag.Goals as goal

pub returns-in-Some-clause-text : goal.returns-in-Some-clause-text
returns-in-Some-clause-text c =
    let begin = after_byte_order_mark c.args.text.now c.args.at in
    c.append.ensures.text
    ∙ ap (λ xs. c.args.names.now.items ++ xs) (c.as_slice.ensures.value ∙ c.shown_beginning.ensures.text
    ∙ ap (λ o. shown_or (option_map (λ t. t.now) o)) (sym c.in-Some.is)
    ∙ shown_is c.args.text.now c.args.name.now begin (option_map (λ t. t.now) c.tag_text.result) c.tag_text.ensures)

pub returns-in-None-clause-text : goal.returns-in-None-clause-text
returns-in-None-clause-text c =
    let begin = after_byte_order_mark c.args.text.now c.args.at in
    c.append-in-None.ensures.text
    ∙ ap (λ xs. c.args.names.now.items ++ xs) (ap (λ o. shown_or (option_map (λ t. t.now) o)) (sym c.in-None.is)
    ∙ shown_is c.args.text.now c.args.name.now begin (option_map (λ t. t.now) c.tag_text.result) c.tag_text.ensures)
