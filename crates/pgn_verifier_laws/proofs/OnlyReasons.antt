-- `IsReason` holds for no other reason than the one that `reason` gives (only_reason): by cases of the fault, and for a
-- bad tag by cases of the first part that it lacks (one_reason).
use Rattle.std.proofs.Common.{◌≡◌, ℕ, List, Option, Some, refl, sym, ap, subst, ◌∙◌}
use Rattle.chess_game.specs.declared.verdicts.Verdict.{Verdict}
use Rattle.pgn_tokens.specs.Tokens.{after_next}
use Rattle.chess_pgn.specs.declared.read.PgnFaultKind.TheVariants as pgn
use Rattle.pgn_tokens.proofs.shared.Tags.{opening_read}
use Rattle.pgn_verifier.specs.{Explanations.IsReason, declared.game_fault.FaultKind.FaultKind, laws.Reasons.reason}
use Rattle.pgn_verifier.specs.WrongParts.{HasName, HasOpening, HasString, IsTagReason, no_name, no_value, not_closed, no_bracket}
use Rattle.pgn_verifier.specs.declared.game_fault.FaultKind.TheVariants.{Pgn, InVariation, UnknownVariant, ResultDiffers, BoardSaysOtherwise}
use Rattle.pgn_verifier.proofs.shared.TagReasons.{name_found, opened, same_end, tag_reason_is}

-- a tag that has an opening has a name
opening_name : (text rest : List ℕ) → HasOpening text rest → HasName text
opening_name text rest (name, opening, o, is) =
    let read = opening_read o rest in
    subst HasName (sym (is ∙ read.is)) (name_found read.inside (name, read.after_name) read.named)

-- what follows an opening is the same, however it is split
same_rest : (text rest others : List ℕ) → HasOpening text rest → HasOpening text others → rest ≡ others
same_rest text rest others (name, opening, o, is) h =
    let read = opening_read o rest in
    let there = opened read.inside others (subst (λ xs. HasOpening xs others) (is ∙ read.is) h) in
    let both : Some rest ≡ Some others =
    sym read.quoted ∙ ap (after_next 34) (same_end (sym read.named ∙ there.named)) ∙ there.quoted in cc (both)

-- two reasons for one bad tag are the same, by cases of what is lacking
one_reason : {text : List ℕ} {r s : Option (List ℕ)} → IsTagReason text r → IsTagReason text s → r ≡ s
one_reason (no_name a) (no_name b) = refl
one_reason (no_name a) (no_value h b) = absurd (a h)
one_reason {text} (no_name a) (not_closed {rest} o b) = absurd (a (opening_name text rest o))
one_reason {text} (no_name a) (no_bracket {rest} o b) = absurd (a (opening_name text rest o))
one_reason (no_value h a) (no_name b) = absurd (b h)
one_reason (no_value h a) (no_value k b) = refl
one_reason (no_value h a) (not_closed {rest} o b) = absurd (a rest o)
one_reason (no_value h a) (no_bracket {rest} o b) = absurd (a rest o)
one_reason {text} (not_closed {rest} o a) (no_name b) = absurd (b (opening_name text rest o))
one_reason (not_closed {rest} o a) (no_value k b) = absurd (b rest o)
one_reason (not_closed o a) (not_closed p b) = refl
one_reason {text} (not_closed {rest} o a) (no_bracket {rest = others} p b) =
    absurd (a (subst HasString (same_rest text others rest p o) b))
one_reason {text} (no_bracket {rest} o a) (no_name b) = absurd (b (opening_name text rest o))
one_reason (no_bracket {rest} o a) (no_value k b) = absurd (b rest o)
one_reason {text} (no_bracket {rest} o a) (not_closed {rest = others} p b) =
    absurd (b (subst HasString (same_rest text rest others o p) a))
one_reason (no_bracket o a) (no_bracket p b) = refl

-- of each kind of fault there is one reason
pub only_reason : (kind : FaultKind) (text : List ℕ) (verdict : Option Verdict) (r : Option (List ℕ))
    → IsReason kind text verdict r → r ≡ reason kind text verdict
only_reason (Pgn pgn.BadTag) text verdict r h = one_reason h (tag_reason_is text)
only_reason (Pgn (pgn.BadFen fault)) text verdict r h = h
only_reason (Pgn pgn.BadToken) text verdict r h = h
only_reason (Pgn pgn.IllegalMove) text verdict r h = h
only_reason (Pgn pgn.AmbiguousMove) text verdict r h = h
only_reason (Pgn pgn.AfterEnd) text verdict r h = h
only_reason (Pgn pgn.TooLong) text verdict r h = h
only_reason (Pgn pgn.UnclosedComment) text verdict r h = h
only_reason (Pgn pgn.UnclosedVariation) text verdict r h = h
only_reason (Pgn pgn.NoResult) text verdict r h = h
only_reason (InVariation pgn.BadTag) text verdict r h = h
only_reason (InVariation (pgn.BadFen fault)) text verdict r h = h
only_reason (InVariation pgn.BadToken) text verdict r h = h
only_reason (InVariation pgn.IllegalMove) text verdict r h = h
only_reason (InVariation pgn.AmbiguousMove) text verdict r h = h
only_reason (InVariation pgn.AfterEnd) text verdict r h = h
only_reason (InVariation pgn.TooLong) text verdict r h = h
only_reason (InVariation pgn.UnclosedComment) text verdict r h = h
only_reason (InVariation pgn.UnclosedVariation) text verdict r h = h
only_reason (InVariation pgn.NoResult) text verdict r h = h
only_reason UnknownVariant text verdict r h = h
only_reason (ResultDiffers tag_len outcome) text verdict r h = h
only_reason BoardSaysOtherwise text verdict r h = h
