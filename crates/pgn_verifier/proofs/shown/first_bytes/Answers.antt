-- Taking more bytes than a text has takes all of it, so the smaller of the two lengths gives the same (take_min).
use Rattle.std.proofs.{Common.ap, Common.◌∙◌, Common.take, lemmas.List.take_min}
use Rattle.pgn_verifier.proofs.shown.first_bytes.Goals as goal

pub returns-clause-value : goal.returns-clause-value
returns-clause-value c =
    ap (λ n. take n c.args.text.now) c.min.ensures ∙ take_min c.args.most c.args.text.now
