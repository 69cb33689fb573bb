-- Counts of a colour's pieces and kings.
use Rattle.std.specs.Prelude.{◌≡◌, ℕ, ◌+◌, Bool, Option, if◌then◌else◌, count_by}
use Rattle.chess_base.specs.declared.man.Colour.{Colour}
use Rattle.chess_base.specs.declared.man.Kind.TheVariants.{King}
use Rattle.chess_base.specs.declared.man.Man.{Man}
use Rattle.chess_base.specs.declared.sound.Tally.{Tally}
use Rattle.chess_base.specs.Men.{Men, is_of, is_man}

-- 1 if a test passes, otherwise 0
abbrev pub one_if : Bool → ℕ
one_if b = if b then 1 else 0

-- the tally u is t with one more square of the content o, for colour c
pub record IsOneMore (c : Colour) (o : Option Man) (t u : Tally) : Type 0 where
  pub men : u.men ≡ t.men + one_if (is_of c o)
  pub kings : u.kings ≡ t.kings + one_if (is_man c King o)

-- the tally t says how many pieces colour c has on squares with the contents xs, and how many of them are kings
pub record IsTally (c : Colour) (xs : Men) (t : Tally) : Type 0 where
  pub men : t.men ≡ count_by (λ o. is_of c o) xs
  pub kings : t.kings ≡ count_by (λ o. is_man c King o) xs
