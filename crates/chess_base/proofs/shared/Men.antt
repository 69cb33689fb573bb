-- For proofs about pieces: the tests of equal colour and kind pass exactly for equal ones; and which of the tests of a
-- square's content (is_of: of a colour, is_man: also of a kind) follow from each other, or exclude each other. Without
-- a piece all fail; a square off the board has none. By cases of colour, kind and content.
use Rattle.std.proofs.Common.{◌≡◌, ℕ, ◌<◌, ◌⊎◌, inl, inr, true, false, Option, Some, None, is_none, length, ◌==◌, refl, sym, ap, ◌∙◌, arith, unwrap_or}
use Rattle.std.proofs.lemmas.Bool.{and_parts, and_left, and_right, eqb-true, cases_lt}
use Rattle.std.proofs.lemmas.List.{get_or_past}
use Rattle.chess_base.specs.{declared.man.Colour.Colour, declared.man.Colour.TheVariants.White, declared.man.Colour.TheVariants.Black, declared.man.Kind.Kind, declared.man.Man.Man, Letters.white_letter, Letters.kind_with_letter, shared.Parts.kind_number}
use Rattle.chess_base.specs.declared.man.Kind.TheVariants.{King, Queen, Rook, Bishop, Knight, Pawn}
use Rattle.chess_base.specs.Men.{Men, man_at, other, same_colour, same_kind, is_of, is_man}

-- a colour equals itself
pub same_colour-self : (c : Colour) → same_colour c c ≡ true
same_colour-self White = refl
same_colour-self Black = refl

-- colours that pass the test are equal
pub same_colour-true : (c d : Colour) → same_colour c d ≡ true → c ≡ d
same_colour-true White White e = refl
same_colour-true Black Black e = refl
same_colour-true White Black e = cc
same_colour-true Black White e = cc

-- the kind with this letter
abbrev kind_at : ℕ → Kind
kind_at c = unwrap_or (kind_with_letter c) King

-- a kind is that of its letter
kind_back : (k : Kind) → kind_at (white_letter k) ≡ k
kind_back King = refl
kind_back Queen = refl
kind_back Rook = refl
kind_back Bishop = refl
kind_back Knight = refl
kind_back Pawn = refl

-- a kind equals itself
pub same_kind-self : (k : Kind) → same_kind k k ≡ true
same_kind-self King = refl
same_kind-self Queen = refl
same_kind-self Rook = refl
same_kind-self Bishop = refl
same_kind-self Knight = refl
same_kind-self Pawn = refl

-- kinds that pass the test are equal
pub same_kind-true : (k l : Kind) → same_kind k l ≡ true → k ≡ l
same_kind-true k l e =
    let letters : white_letter k ≡ white_letter l = eqb-true _ _ e in
    sym (kind_back k) ∙ ap kind_at letters ∙ kind_back l

-- kinds are equal if their numbers are
pub same_kind_by_number : (k l : Kind) → same_kind k l ≡ (kind_number k == kind_number l)
same_kind_by_number k l = grind arith

-- a colour that equals the other one is not this one
pub same_colour-other : (c d : Colour) → same_colour (other c) d ≡ true → same_colour c d ≡ false
same_colour-other White White e = cc
same_colour-other Black Black e = cc
same_colour-other White Black e = refl
same_colour-other Black White e = refl

-- the other colour of the other one is this one
pub other-other : (c : Colour) → other (other c) ≡ c
other-other White = refl
other-other Black = refl

-- a colour is this one or the other one
pub colour_cases : (c d : Colour) → (d ≡ c) ⊎ (d ≡ other c)
colour_cases White White = inl refl
colour_cases Black Black = inl refl
colour_cases White Black = inr refl
colour_cases Black White = inr refl

-- a piece of a colour and a kind is of that colour
pub is_of-from_is_man : (c : Colour) (k : Kind) (o : Option Man) → is_man c k o ≡ true → is_of c o ≡ true
unfolding is_man is_of
is_of-from_is_man c k None e = cc
is_of-from_is_man c k (Some x) e = (and_parts _ _ e).0

-- what is not of a colour is no piece of that colour and a kind
pub not_is_man : (c : Colour) (k : Kind) (o : Option Man) → is_of c o ≡ false → is_man c k o ≡ false
unfolding is_man is_of
not_is_man c k None e = refl
not_is_man c k (Some x) e = and_left _ _ e

-- what is of the other colour is not of this one
pub is_of-other : (c : Colour) (o : Option Man) → is_of (other c) o ≡ true → is_of c o ≡ false
unfolding is_of
is_of-other c None e = refl
is_of-other c (Some x) e = same_colour-other c x.colour e

-- a piece of colour c is none of the other colour
pub no_other : (c : Colour) (k : Kind) (o : Option Man) → is_man c k o ≡ true → is_of (other c) o ≡ false
no_other c k o e = is_of-other _ _ (rw other-other (is_of-from_is_man _ _ _ e))

-- where no piece is, none is of a colour
pub is_of-none : (c : Colour) (o : Option Man) → is_none o ≡ true → is_of c o ≡ false
unfolding is_of
is_of-none c None e = refl
is_of-none c (Some x) e = cc

-- where no piece is, none is of a colour and a kind
pub is_man-none : (c : Colour) (k : Kind) (o : Option Man) → is_none o ≡ true → is_man c k o ≡ false
is_man-none c k o e = not_is_man _ _ _ (is_of-none _ _ e)

-- a piece of one kind is of no other
pub is_man-kind : (c d : Colour) (k l : Kind) (o : Option Man) → same_kind l k ≡ false → is_man c k o ≡ true
    → is_man d l o ≡ false
unfolding is_man
is_man-kind c d k l None n e = refl
is_man-kind c d k l (Some x) n e =
    let at : white_letter k ≡ white_letter x.kind = eqb-true _ _ (and_parts _ _ e).1 in
    let other_kind : same_kind l x.kind ≡ false = rw (← at) n in
    and_right _ _ other_kind

-- a piece of the other colour is none of this one
pub is_man-colour : (c : Colour) (k l : Kind) (o : Option Man) → is_man (other c) k o ≡ true → is_man c l o ≡ false
is_man-colour c k l o e = not_is_man _ _ _ (is_of-other _ _ (is_of-from_is_man _ _ _ e))

-- a square with a piece is one of the 64
pub in_board : (men : Men) (c : Colour) (k : Kind) (s : ℕ) → length men ≡ 64 → is_man c k (man_at men s) ≡ true → s < 64
unfolding is_man
in_board men c k s l e =
    elim (cases_lt s 64) [
      | inl h ↦ h
      | inr h ↦ let past : man_at men s ≡ None = get_or_past men s None (omega arith) in
          absurd (let f = rw past at e in cc f)
    ]

-- an option that has no value
pub is_none-None : {A : Type 0} (o : Option A) → is_none o ≡ true → o ≡ None
is_none-None None e = refl
is_none-None (Some x) e = cc

-- a rook is no king
pub is_man-rook_as_king : (c : Colour) → is_man c King (Some (record { colour = c; kind = Rook })) ≡ false
unfolding is_man
is_man-rook_as_king White = refl
is_man-rook_as_king Black = refl
