-- The lines that `fault_lines` makes of a fault, from its label (the game's number, span and names, and what is left
-- unread), are those of the definition's report on it (fault_lines_are), since each part of the label is the
-- definition's.
use Rattle.std.proofs.Common.{◌≡◌, ℕ, ◌+◌, ◌&&◌, Bool, true, false, List, [], ◌++◌, length, drop, Option, Some, None, refl, sym, ap, ap₂, ◌∙◌, append_assoc, append-nil, arith, codes, decimal, if◌then◌else◌, is_some, nat_lt, not, option_map, unwrap_or}
use Rattle.chess_game.specs.Game.{State}
use Rattle.chess_pgn.specs.GameRead.{ending}
use Rattle.chess_pgn.specs.PastDraws.{Stands}
use Rattle.chess_pgn.specs.declared.read.PgnFaultKind.TheVariants.{BadTag, BadFen, BadToken, IllegalMove, AmbiguousMove, AfterEnd, TooLong, UnclosedComment, UnclosedVariation, NoResult}
use Rattle.pgn_verifier.specs.Explanations.{shown, wrong_part, explanation, explanation_line}
use Rattle.pgn_verifier.specs.Reports.{game_begin}
use Rattle.verify_options.specs.declared.options.VerifyOptions.{VerifyOptions}
use Rattle.pgn_verifier.specs.{declared.after_fault.AfterFault.AfterFault, declared.game_fault.FaultKind.FaultKind, declared.game_fault.GameFault.GameFault, declared.label.FaultLabel.FaultLabel, declared.start.TextStart.TextStart, declared.tally.Tally.Tally, laws.Reasons.reason, laws.Reported.is_at_begin, laws.Reported.names_at, laws.Reported.next_at, laws.Reported.fault_placed}
use Rattle.pgn_verifier.specs.declared.game_fault.FaultKind.TheVariants.{Pgn, InVariation, UnknownVariant, ResultDiffers, BoardSaysOtherwise}
use Rattle.pgn_verifier.specs.ties.Explaining.{explanation_of, part_on, span_from, unread_from, unread_text}
use Rattle.pgn_verifier.specs.ties.OnTheWay.{moved, fault_line, next_number, span_written, unread_written}
use Rattle.pgn_verifier.proofs.{Judging.explained_alike, LinesWritten.placed_line}

-- ---- the part that is wrong

-- the part of the text that is wrong, by the fault's kind: the code's place of it, and what it shows of it, are the
-- definition's
record IsPart (kind : FaultKind) (text : List ℕ) (begin at : ℕ) : Type 0 where
  pub place : (if is_at_begin kind then begin else at + (part_on kind (drop at text)).0)
      ≡ (wrong_part kind text begin at).0
  pub word : (if is_at_begin kind then shown (drop begin text) else []) ++ (part_on kind (drop at text)).1
      ≡ (wrong_part kind text begin at).1

no_further : (at : ℕ) → at + 0 ≡ at
no_further at = omega arith

-- it is so for each kind of fault
is_part : (kind : FaultKind) (text : List ℕ) (begin at : ℕ) → IsPart kind text begin at
is_part (Pgn (BadFen fault)) text begin at = record { place = refl; word = refl }
is_part (Pgn NoResult) text begin at = record { place = refl; word = append-nil (shown (drop begin text)) }
is_part (Pgn BadTag) text begin at = record { place = no_further at; word = refl }
is_part (Pgn BadToken) text begin at = record { place = no_further at; word = refl }
is_part (Pgn IllegalMove) text begin at = record { place = no_further at; word = refl }
is_part (Pgn AmbiguousMove) text begin at = record { place = no_further at; word = refl }
is_part (Pgn AfterEnd) text begin at = record { place = no_further at; word = refl }
is_part (Pgn TooLong) text begin at = record { place = no_further at; word = refl }
is_part (Pgn UnclosedComment) text begin at = record { place = no_further at; word = refl }
is_part (Pgn UnclosedVariation) text begin at = record { place = no_further at; word = refl }
is_part (InVariation kind) text begin at = record { place = no_further at; word = refl }
is_part UnknownVariant text begin at = record { place = no_further at; word = refl }
is_part (ResultDiffers tag_len outcome) text begin at = record { place = no_further at; word = refl }
is_part BoardSaysOtherwise text begin at = record { place = no_further at; word = refl }

-- the same place, counted from the input's first byte
in_input : (b : Bool) (start begin at n : ℕ)
    → (if b then start + begin else start + at + n) ≡ start + (if b then begin else at + n)
in_input true start begin at n = refl
in_input false start begin at n = omega arith

-- ---- what isn't read

-- the end of an explanation, by whether it is said that nothing is read from a fault's byte on
said_unread : (b : Bool) (start offset end : ℕ)
    → unread_text (option_map (λ (n : ℕ). start + n) (if b then Some offset else None)) end
    ≡ (if b then codes " | bytes " ++ (decimal (start + offset) ++ (codes " to " ++ (decimal end
    ++ codes " not read"))) else [])
said_unread true start offset end = refl
said_unread false start offset end = refl

-- ---- the lines

-- a fault of the game that is read from `at` on, with a label as the code makes it: each hypothesis says what one part
-- of it is
module _ (options : VerifyOptions) (place : TextStart) (text : List ℕ) (at : ℕ) (fault : GameFault) (g s : State)
    (alike : Stands options.strict.draws_of_2014 g s) (tally : Tally) (label : FaultLabel) (after : AfterFault)
    (next : after.next ≡ next_at place.goes_on text at)
    (unread : after.unread ≡ unread_from place.goes_on (length text) fault.offset (next_at place.goes_on text at))
    (number : label.game.number ≡ next_number tally)
    (span : span_written label.game.span
    ≡ span_from options (place.offset + game_begin text at) (place.offset + unwrap_or after.next (length text)))
    (names : label.names.items ≡ (if options.names then names_at text at else []))
    (begin : label.begin ≡ game_begin text at)
    (said : unread_written label.unread ≡ unread_text (option_map (λ offset. place.offset + offset) after.unread)
    (place.offset + unwrap_or after.next (length text)))
  where
    -- the lines with this number, end of the first line, and names; the fault is explained there; and with these words
    -- in the second line
    abbrev lines_at : List ℕ → ℕ → List ℕ → List ℕ → ℕ → List ℕ → List ℕ
    lines_at input n end named there words =
        fault_line n (moved place.offset fault) end named
        ++ (if options.explain then explanation_line input there words else [])

    -- the lines with this number, end of the first line, and names; the game begins there; and with this end of the
    -- second line
    abbrev lines_by : State → List ℕ → ℕ → List ℕ → List ℕ → ℕ → List ℕ → List ℕ
    lines_by x input n end named there rest = lines_at input n end named
        (if is_at_begin fault.kind then place.offset + there
        else place.offset + fault.offset + (part_on fault.kind (drop fault.offset text)).0)
        ((if is_at_begin fault.kind then shown (drop there text) else [])
        ++ (explanation_of options.strict.draws_of_2014 x (drop fault.offset text) fault.kind ++ rest))

    abbrev lines : List ℕ → ℕ → List ℕ → List ℕ → ℕ → List ℕ → List ℕ
    lines input n end named there rest = lines_by s input n end named there rest

    abbrev spanned : Option ℕ → List ℕ
    spanned o = span_from options (place.offset + game_begin text at) (place.offset + unwrap_or o (length text))

    abbrev left : Option ℕ → Option ℕ → List ℕ
    left begin o =
        unread_text (option_map (λ offset. place.offset + offset) begin) (place.offset + unwrap_or o (length text))

    -- a game at the same position is explained alike
    lines_alike : (input : List ℕ) (n : ℕ) (end named : List ℕ) (there : ℕ) (rest : List ℕ)
        → lines_by g input n end named there rest ≡ lines input n end named there rest
    lines_alike input n end named there rest =
        ap (λ why. lines_at input n end named (if is_at_begin fault.kind then place.offset + there
        else place.offset + fault.offset + (part_on fault.kind (drop fault.offset text)).0)
        ((if is_at_begin fault.kind then shown (drop there text) else []) ++ (why ++ rest)))
        (explained_alike options.strict.draws_of_2014 g s alike (drop fault.offset text) fault.kind)

    -- where the fault is explained, and by what words
    abbrev there : ℕ
    there = (wrong_part fault.kind text (game_begin text at) fault.offset).0

    abbrev word : List ℕ
    word = (wrong_part fault.kind text (game_begin text at) fault.offset).1

    abbrev why : List ℕ
    why = explanation s fault.kind
        (reason fault.kind (drop fault.offset text) (ending options.strict.draws_of_2014 s))

    part_place : (if is_at_begin fault.kind then place.offset + game_begin text at
        else place.offset + fault.offset + (part_on fault.kind (drop fault.offset text)).0) ≡ place.offset + there
    part_place =
        let part = is_part fault.kind text (game_begin text at) fault.offset in
        in_input (is_at_begin fault.kind) place.offset (game_begin text at) fault.offset
        (part_on fault.kind (drop fault.offset text)).0 ∙ ap (λ n. place.offset + n) part.place

    part_words : (rest : List ℕ) → (if is_at_begin fault.kind then shown (drop (game_begin text at) text) else [])
        ++ (explanation_of options.strict.draws_of_2014 s (drop fault.offset text) fault.kind ++ rest)
        ≡ word ++ (why ++ rest)
    part_words rest =
        let first : List ℕ = (if is_at_begin fault.kind then shown (drop (game_begin text at) text) else []) in
        let own : List ℕ = (part_on fault.kind (drop fault.offset text)).1 in
        let part = is_part fault.kind text (game_begin text at) fault.offset in
        ap (λ xs. first ++ xs) (append_assoc own why rest) ∙ sym (append_assoc first own (why ++ rest))
        ∙ ap (λ xs. xs ++ (why ++ rest)) part.word

    pub fault_lines_are : (input : List ℕ)
        → lines_by g input label.game.number (span_written label.game.span) label.names.items label.begin
        (unread_written label.unread)
        ≡ placed_line options input (next_number tally)
        (fault_placed options.strict.draws_of_2014 place.goes_on place.offset text at
        (next_at place.goes_on text at) fault s)
    fault_lines_are input =
        let n : ℕ = next_number tally in
        let o : Option ℕ = next_at place.goes_on text at in
        let named : List ℕ = (if options.names then names_at text at else []) in
        let rest : List ℕ = unread_written label.unread in
        let ends : List ℕ = left (unread_from place.goes_on (length text) fault.offset o) o in
        lines_alike input label.game.number (span_written label.game.span) label.names.items label.begin rest
        ∙ ap (λ k. lines input k (span_written label.game.span) label.names.items label.begin rest) number
        ∙ ap (λ xs. lines input n xs label.names.items label.begin rest) (span ∙ ap spanned next)
        ∙ ap (λ xs. lines input n (spanned o) xs label.begin rest) names
        ∙ ap (λ k. lines input n (spanned o) named k rest) begin
        ∙ ap (λ xs. lines input n (spanned o) named (game_begin text at) xs)
        (said ∙ ap (λ p. left after.unread p) next ∙ ap (λ b. left b o) unread)
        ∙ ap₂ (λ k xs. lines_at input n (spanned o) named k xs) part_place (part_words ends)
        ∙ ap (λ xs. lines_at input n (spanned o) named (place.offset + there) (word ++ (why ++ xs)))
        (said_unread (place.goes_on && not (is_some o) && nat_lt fault.offset (length text)) place.offset fault.offset
        (place.offset + unwrap_or o (length text)))
