-- The law reads_change_no_answer. If the bytes that the input will give are known, they begin with those that were
-- read, so the lines read are the first of their lines (are_first). A run that ends without a fault answered these
-- lines (answers_input): either a line ended the server, which answers none after it, or the input ended, and all were
-- read.
use Rattle.std.proofs.Common.{◌≡◌, ℕ, Bool, true, false, List, [], ◌∷◌, ◌++◌, Option, Some, None, Ok, refl, sym, ap, ◌∙◌, append-nil, subst, IfSome}
use Rattle.std.proofs.KnownBytes.{Consumes-whole}
use Rattle.std.specs.Io.KnownBytes.{Consumes}
use Rattle.byte_devices.specs.Transfers.{FromInput, Devices, InputGave, OutputTook, Ran}
use Rattle.byte_devices.proofs.shared.Transfers.{all_for, some_for}
use Rattle.text_lines.specs.Lines.{LineSeen, stream_lines}
use Rattle.chess_cecp.specs.{Serving.Response, Serving.Server, Serving.responses, Served.Served, Served.lines_read, declared.run.End.End, declared.run.End.TheVariants.Quit, declared.run.End.TheVariants.InputEnded, declared.session.TheConstants.COMMAND_LEN}
use Rattle.chess_cecp.proofs.shared.Lines.{first_lines, stays_ended}
use Rattle.chess_cecp_laws.specs.KnownInput.{AreFirstLines, AnswersInput, lines_of}

-- the bytes `bs` were read, and `P` holds of them with any bytes after them: then it holds of all known bytes `a`,
-- which begin with `bs`. `b`: those that are left, if they are known
known_front : (a b : Option (List ℕ)) (bs : List ℕ) (P : List ℕ → Type 0) → Consumes a b bs
    → ((rest : List ℕ) → P (bs ++ rest)) → IfSome a P
known_front None b bs P p h = tt
known_front (Some x) None bs P p h = absurd p
known_front (Some x) (Some y) bs P p h = subst P (sym p) (h y)

-- `P` holds of the lines read (of `i`) with any lines after them: then it holds of the lines of all known bytes. If the
-- end was reported, these are the lines read; otherwise more may follow
known_lines : (d d' : Devices) (i : FromInput) (P : List LineSeen → Type 0) → InputGave d.input d'.input i
    → ((more : List LineSeen) → P (lines_read i ++ more)) → IfSome d.input.known_bytes (λ xs. P (lines_of xs))
known_lines d d' i P g h = by i.ended refl
  where
    by : (b : Bool) → i.ended ≡ b → IfSome d.input.known_bytes (λ xs. P (lines_of xs))
    by true e = Consumes-whole d.input.known_bytes d'.input.known_bytes i.text (λ xs. P (lines_of xs)) g.bytes
        (g.at_end e) (subst P (append-nil (lines_read i) ∙ ap (λ b. stream_lines COMMAND_LEN b i.text) e) (h []))
    by false e = known_front d.input.known_bytes d'.input.known_bytes i.text (λ xs. P (lines_of xs)) g.bytes
        (λ rest. let f = first_lines COMMAND_LEN true i.text rest in
        subst P (sym (f.1 ∙ ap (λ b. stream_lines COMMAND_LEN b i.text ++ f.0) (sym e))) (h f.0))

pub are_first : (d d' : Devices) (i : FromInput) → InputGave d.input d'.input i → AreFirstLines d i
are_first d d' i g = known_lines d d' i (λ ls. (more : List LineSeen) × (ls ≡ lines_read i ++ more)) g
    (λ more. (more, refl))

-- between the states of the devices, just the responses to the lines `ls` were written and flushed, and `s'` is the
-- server's state after them
abbrev IsAll : {S : Type 0} → Server S → S → S → Devices → Devices → List LineSeen → Type 0
IsAll respond s s' d d' ls =
    let due = responses respond s ls in OutputTook d.output d'.output (all_for ls due.text) × (s' ≡ due.state)

-- if the server ends with one of the lines `ls`, there is a line, so a flush succeeded, with or without `more` after
-- them
and_later : {S : Type 0} (respond : Server S) (s : S) (ls more : List LineSeen) (text : List ℕ)
    → (responses respond s ls).ends ≡ true → all_for ls text ≡ all_for (ls ++ more) text
and_later respond s [] more text ends = absurd cc
and_later respond s (l ∷ ls) more text ends = sym (some_for [] l ls text) ∙ some_for [] l (ls ++ more) text

-- a run that ended by a line such as `quit`, or by the input's end, answered the lines of the known bytes
pub answers_input : {S : Type 0} (respond : Server S) (s s' : S) (end : End) (d d' : Devices)
    → Ran (Served respond s s' (Ok end)) d d' → AnswersInput respond s s' d d'
answers_input {S} respond s s' Quit d d' (i, o, g, k, (none, (ok, (all, next, ends), early))) =
    known_lines d d' i (IsAll respond s s' d d') g
    (λ more. subst (λ (v : Response S). OutputTook d.output d'.output (all_for (lines_read i ++ more) v.text)
    × (s' ≡ v.state)) (sym (stays_ended respond s (lines_read i) more ends)) (
      subst (OutputTook d.output d'.output)
          (all ∙ and_later respond s (lines_read i) more (responses respond s (lines_read i)).text ends) k,
      next,
    ))
answers_input {S} respond s s' InputEnded d d' (i, o, g, k, (none, ((ended, ok), (all, next, ends)))) =
    let here : IsAll respond s s' d d' (lines_read i) = (subst (OutputTook d.output d'.output) all k, next) in
    Consumes-whole d.input.known_bytes d'.input.known_bytes i.text
    (λ xs. IsAll respond s s' d d' (lines_of xs)) g.bytes (g.at_end ended)
    (subst (λ b. IsAll respond s s' d d' (stream_lines COMMAND_LEN b i.text)) ended here)
