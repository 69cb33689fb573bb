-- Steps at the table of a host: without those at the table alone they are the host's steps. Each list that may come at
-- such a table (`MarkedBy`) ends with a mark, the number of the table's reference to the host; so the reference stays
-- the same (name_kept), and what passed at the table passed at the host (by_table).
use Rattle.std.proofs.Common.{◌≡◌, ◌∙◌, ℕ, Bool, true, false, List, [], ◌∷◌, ◌++◌, Option, Result, Err, refl, sym, ap, subst, append_assoc, inl, inr, map}
use Rattle.std.proofs.{lemmas.List.Concat.flat_map-append, lemmas.List.same_from_push}
use Rattle.chess_match.specs.declared.games_plan.GamesPlan.{GamesPlan}
use Rattle.match_runner.specs.{declared.fault.GamesFault.GamesFault, declared.fault.GamesFault.TheVariants.NoMemory, ties.AtHost.MarkedBy}
use Rattle.match_runner.specs.GamesTable.{AtHost, GamesStep, HostFuture, HostStep, OpensClock, Outputs, PlaysBy, PlaysGamesAt, PlaysGamesWith, StepsPass, WriteFails, Writes, at_host, of_host, writing}
use Rattle.match_runner.proofs.GamesWritten.{steps_more, steps_none}

-- a step that passes at the host passes at the table, as a step of the host
pub host_passes : (p p' : HostFuture) (name name' : ℕ) (step : HostStep) → name' ≡ name → StepsPass p p' (step ∷ [])
    → StepsPass (MarkedBy p name) (MarkedBy p' name') (AtHost step ∷ [])
host_passes p p' name name' step same h = record { extends = extends }
  where
    extends : (after : List GamesStep) → MarkedBy p' name' after → MarkedBy p name (AtHost step ∷ after)
    extends after (inl (before, is, x)) =
        inl (AtHost step ∷ before, rw (is, same) refl, h.extends (at_host before) x)
    extends after (inr (before, is)) = inr (AtHost step ∷ before, rw (is, same) refl)

-- a step at the table alone passes at the table, while what may come at the host stays
pub table_passes : (p : HostFuture) (name : ℕ) (step : GamesStep) → of_host step ≡ []
    → StepsPass (MarkedBy p name) (MarkedBy p name) (step ∷ [])
table_passes p name step none = record { extends = extends }
  where
    extends : (after : List GamesStep) → MarkedBy p name after → MarkedBy p name (step ∷ after)
    extends after (inl (before, is, x)) = inl (
      step ∷ before,
      ap (λ (K : List GamesStep). step ∷ K) is,
      subst (λ (K : List HostStep). p (K ++ at_host before)) (sym none) x,
    )
    extends after (inr (before, is)) = inr (step ∷ before, ap (λ (K : List GamesStep). step ∷ K) is)

-- writing a text is no step of the host
pub writes_at_table : (failed : Bool) (text : List ℕ) → of_host (writing failed text) ≡ []
writes_at_table true text = refl
writes_at_table false text = refl

-- the host's steps at a table are themselves
steps_of_host : (steps : List HostStep) → at_host (map AtHost steps) ≡ steps
steps_of_host [] = refl
steps_of_host (step ∷ steps) = ap (λ (K : List HostStep). step ∷ K) (steps_of_host steps)

-- a mark at the end of the steps is that of the table
mark_same : (p : HostFuture) (name name' : ℕ) (steps : List GamesStep)
    → MarkedBy p name (steps ++ WriteFails (name' ∷ []) ∷ []) → name ≡ name'
mark_same p name name' steps (inl (before, is, x)) =
    let last = (same_from_push steps before (WriteFails (name' ∷ [])) (Writes (name ∷ [])) is).1 in absurd (cc)
mark_same p name name' steps (inr (before, is)) =
    let last = (same_from_push steps before (WriteFails (name' ∷ [])) (WriteFails (name ∷ [])) is).1 in cc

-- steps before a mark may come at the host
unmarked : (p : HostFuture) (name name' : ℕ) (steps : List GamesStep)
    → MarkedBy p name (steps ++ Writes (name' ∷ []) ∷ []) → p (at_host steps)
unmarked p name name' steps (inl (before, is, x)) =
    let same = (same_from_push steps before (Writes (name' ∷ [])) (Writes (name ∷ [])) is).0 in
    subst (λ (K : List GamesStep). p (at_host K)) (sym same) x
unmarked p name name' steps (inr (before, is)) =
    let last = (same_from_push steps before (Writes (name' ∷ [])) (WriteFails (name ∷ [])) is).1 in absurd (cc)

-- the table still holds the same reference
pub name_kept : (p p' : HostFuture) (name name' : ℕ) (steps : List GamesStep)
    → StepsPass (MarkedBy p name) (MarkedBy p' name') steps → name ≡ name'
name_kept p p' name name' steps h =
    mark_same p name name' steps (h.extends (WriteFails (name' ∷ []) ∷ []) (inr ([], refl)))

-- what passed at the table passed at the host
from_table : (p p' : HostFuture) (name name' : ℕ) (steps : List GamesStep)
    → StepsPass (MarkedBy p name) (MarkedBy p' name') steps → StepsPass p p' (at_host steps)
from_table p p' name name' steps h = record {
  extends = λ after x.
      let marked = map AtHost after ++ Writes (name' ∷ []) ∷ [] in
      let there : p' (at_host (map AtHost after)) = subst (λ (K : List HostStep). p' K) (sym (steps_of_host after)) x in
      let all = subst (λ (K : List GamesStep). MarkedBy p name K)
      (sym (append_assoc steps (map AtHost after) (Writes (name' ∷ []) ∷ [])))
      (h.extends marked (inl (map AtHost after, refl, there))) in
      subst (λ (K : List HostStep). p K)
      (flat_map-append of_host steps (map AtHost after)
      ∙ ap (λ (K : List HostStep). at_host steps ++ K) (steps_of_host after))
      (unmarked p name name' (steps ++ map AtHost after) all);
}

-- a match at the table of a host, as the host shows it
pub by_table : (plan : GamesPlan) (result : Result (Unit {0}) GamesFault) (coming : ℕ → Option ℕ)
    (p p' : HostFuture) (name name' : ℕ) (d d' : Outputs)
    → PlaysGamesAt plan result coming (MarkedBy p name) (MarkedBy p' name') d d'
    → PlaysBy plan result coming (λ at_table. StepsPass p p' (at_host at_table)) d d'
by_table plan result coming p p' name name' d d' (games, unwritten, written, turns, steps) =
    (games, unwritten, written, turns, from_table p p' name name' _ steps)

-- a match with the host, whose clock was opened before
pub plays_with : (plan : GamesPlan) (result : Result (Unit {0}) GamesFault) (coming : ℕ → Option ℕ)
    (p p' p'' : HostFuture) (d d' : Outputs) → StepsPass p p' (OpensClock coming ∷ [])
    → PlaysBy plan result coming (λ at_table. StepsPass p' p'' (at_host at_table)) d d'
    → (steps : List HostStep) × StepsPass p p'' steps × PlaysGamesWith plan result steps d d'
plays_with plan result coming p p' p'' d d' opens (games, unwritten, written, turns, steps) = (
  _,
  steps_more p p' p'' (OpensClock coming ∷ []) _ opens steps,
  inl (coming, (games, unwritten, written, turns, refl)),
)

-- memory ran out before
pub no_memory : (plan : GamesPlan) (result : Result (Unit {0}) GamesFault) (p : HostFuture) (d : Outputs)
    → result ≡ Err NoMemory
    → (steps : List HostStep) × StepsPass p p steps × PlaysGamesWith plan result steps d d
no_memory plan result p d is = ([], steps_none p, inr (is, refl, refl))
