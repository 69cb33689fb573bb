-- From the steps that passed at the desk follows what each of its devices shows (DesksPlayed.desk_ran). The references
-- in the desk at the end are those that it was made with, by their names, which stay (DesksPlayed.names_kept): so
-- White's and Black's ends are given back with their own readers and writers.
use Rattle.std.proofs.Common.{◌≡◌, ℕ, [], ◌∷◌, ap}
use Rattle.chess_base.specs.ByColour.{by_colour}
use Rattle.text_lines.specs.Lines.{nothing_held}
use Rattle.chess_match.proofs.{LineNeeds.both_sides, DesksPlayed.desk_ran, DesksPlayed.names_kept}
use Rattle.chess_match.proofs.run.run_match_watched.Goals as goal

-- six names that are the same, one by one
each_name : (a b c d e f a' b' c' d' e' f' : ℕ) → a' ∷ b' ∷ c' ∷ d' ∷ e' ∷ f' ∷ [] ≡ a ∷ b ∷ c ∷ d ∷ e ∷ f ∷ []
    → (a ≡ a') × (b ≡ b') × (c ≡ c') × (d ≡ d') × (e ≡ e') × (f ≡ f')
each_name a b c d e f a' b' c' d' e' f' h = (cc, cc, cc, cc, cc, cc)

pub shape_of-white-2 : goal.shape_of-white-2
shape_of-white-2 g c =
    (each_name _ _ _ _ _ _ _ _ _ _ _ _ (names_kept _ _ _ _ _ _ _ _ _ _ _ c.run_match_at.ensures.ran.4
    (both_sides (λ S. by_colour c.new.result c.new-2.result S ≡ nothing_held) c.new.ensures c.new-2.ensures))).0

pub shape_of-white : goal.shape_of-white
shape_of-white g c =
    (each_name _ _ _ _ _ _ _ _ _ _ _ _ (names_kept _ _ _ _ _ _ _ _ _ _ _ c.run_match_at.ensures.ran.4
    (both_sides (λ S. by_colour c.new.result c.new-2.result S ≡ nothing_held) c.new.ensures c.new-2.ensures))).1

pub shape_of-black-2 : goal.shape_of-black-2
shape_of-black-2 g c =
    (each_name _ _ _ _ _ _ _ _ _ _ _ _ (names_kept _ _ _ _ _ _ _ _ _ _ _ c.run_match_at.ensures.ran.4
    (both_sides (λ S. by_colour c.new.result c.new-2.result S ≡ nothing_held) c.new.ensures c.new-2.ensures))).2

pub shape_of-black : goal.shape_of-black
shape_of-black g c =
    (each_name _ _ _ _ _ _ _ _ _ _ _ _ (names_kept _ _ _ _ _ _ _ _ _ _ _ c.run_match_at.ensures.ran.4
    (both_sides (λ S. by_colour c.new.result c.new-2.result S ≡ nothing_held) c.new.ensures c.new-2.ensures))).3

pub returns-clause-ran : goal.returns-clause-ran
returns-clause-ran g c =
    desk_ran c.args.setup.now c.run_match_at.result _ _ _ _ _ _ _ _ _ _ _ _ _ _ c.run_match_at.ensures.ran
    (both_sides (λ S. by_colour c.new.result c.new-2.result S ≡ nothing_held) c.new.ensures c.new-2.ensures)
    (λ h. ap g.M.Moments.coming (c.moments-1.given.1 (each_name _ _ _ _ _ _ _ _ _ _ _ _ h).4))
    (λ h. ap g.L.Witness.noted (c.witness-1.given.1 (each_name _ _ _ _ _ _ _ _ _ _ _ _ h).5))
