-- Each position is the same as itself (same_self), part by part: side, pieces square by square (man_self says it of the
-- content of one square), rights and the square of a legal capture en passant.
use Rattle.std.proofs.Common.{◌≡◌, ℕ, true, Option, None, Some, refl}
use Rattle.std.proofs.lemmas.Bool.{and_from, eq-eqb}
use Rattle.chess_base.specs.{declared.man.Man.Man, declared.man.Rights.Rights, declared.man.ColourRights.ColourRights, declared.setup.Setup.Setup, Men.Men, Men.man_at}
use Rattle.chess_base.proofs.{shared.Squares.each_square-all, shared.Men.same_colour-self, shared.Men.same_kind-self}
use Rattle.chess_game.specs.Same.{is_same_position, same_man, same_men, same_square, same_colour_rights, same_rights, legal_en_passant_square}

pub man_self : (o : Option Man) → same_man o o ≡ true
man_self None = refl
man_self (Some x) = and_from _ _ (same_colour-self x.colour) (same_kind-self x.kind)

men_self : (men : Men) → same_men men men ≡ true
unfolding same_men
men_self men = each_square-all (λ s. same_man (man_at men s) (man_at men s)) (λ k h. man_self (man_at men k))

square_self : (o : Option ℕ) → same_square o o ≡ true
square_self None = refl
square_self (Some s) = eq-eqb s s refl

rights_of_self : (r : ColourRights) → same_colour_rights r r ≡ true
rights_of_self r = and_from _ _ (square_self r.king_side) (square_self r.queen_side)

rights_self : (r : Rights) → same_rights r r ≡ true
unfolding same_rights
rights_self r = and_from _ _ (rights_of_self r.white) (rights_of_self r.black)

pub same_self : (p : Setup) → is_same_position p p ≡ true
unfolding is_same_position
same_self p =
    and_from _ _ (and_from _ _ (and_from _ _ (same_colour-self p.side) (men_self p.men)) (rights_self p.rights))
    (square_self (legal_en_passant_square p))
