-- The loops over a stub's remarks, which are the arguments `offer` and `claim` after its move. One loop sends their
-- lines, up to the first other argument: its invariant (SoFar), kept by `more`, and what follows when a write fails
-- (`broken`) or no remark is left (at_other, at_end). One looks for that argument (after_more, after_other, after_end).
-- Last: the state after a stub's turn (turn_state).
use Rattle.std.proofs.Common.{◌≡◌, ◌∙◌, ◌<◌, ◌≤◌, ◌+◌, ℕ, suc, Bor, Bool, true, false, List, [], ◌∷◌, ◌++◌, length, drop, get_or, is_some, option_map, Option, Some, None, unwrap_or, Result, IsErr, if◌then◌else◌, refl, sym, ap, append_assoc, append-nil, subst, arith, bytes_eq, codes, cond, flat_map, take}
use Rattle.std.proofs.lemmas.List.{drop_more, at_drop_all}
use Rattle.byte_devices.specs.Devices.{OutputState, Took, CutShort, Puts}
use Rattle.byte_devices.proofs.shared.Devices.{took_none, took_more, breaks_more, breaks_longer, puts_exit}
use Rattle.std.specs.List.{prefix_len}
use Rattle.chess_cecp.specs.Serving.{says}
use Rattle.stub_engine.specs.Stub.{Arguments, after_remarks, is_remark, playing, remark, remarks, turn}

-- ---- arguments

-- the line that is sent for an argument; nothing for one that is no remark
abbrev said_of : Bor (List ℕ) → List ℕ
said_of argument = unwrap_or (remark argument.now) []

-- without arguments there are no remarks
remarks_none : remarks [] ≡ []
unfolding remarks
remarks_none = refl

-- a line before others; without that line there are none
abbrev before_others : Option (List ℕ) → List ℕ → List ℕ
before_others None others = []
before_others (Some text) others = text ++ others

one_suc : (n : ℕ) → 1 + n ≡ suc n
one_suc n = omega arith

remarks_by : (argument : Bor (List ℕ)) (arguments : Arguments) (o : Option (List ℕ)) → remark argument.now ≡ o
    → remarks (argument ∷ arguments) ≡ before_others o (remarks arguments)
unfolding remarks
remarks_by argument arguments None e =
    ap (λ b. flat_map said_of (take (cond b (1 + prefix_len is_remark arguments) 0) (argument ∷ arguments)))
    (ap is_some e)
remarks_by argument arguments (Some text) e =
    ap (λ b. flat_map said_of (take (cond b (1 + prefix_len is_remark arguments) 0) (argument ∷ arguments)))
    (ap is_some e)
    ∙ ap (λ k. flat_map said_of (take k (argument ∷ arguments))) (one_suc (prefix_len is_remark arguments))
    ∙ ap (λ o. unwrap_or o [] ++ flat_map said_of (take (prefix_len is_remark arguments) arguments)) e

-- the remarks at the front of a list: the first argument's line, if it is one, and then those at the front of the rest
remarks_one : (argument : Bor (List ℕ)) (arguments : Arguments)
    → remarks (argument ∷ arguments) ≡ before_others (remark argument.now) (remarks arguments)
remarks_one argument arguments = remarks_by argument arguments (remark argument.now) refl

after_none : after_remarks [] ≡ []
unfolding after_remarks
after_none = refl

after_by : (argument : Bor (List ℕ)) (arguments : Arguments) (b : Bool) → is_remark argument ≡ b
    → after_remarks (argument ∷ arguments) ≡ (if b then after_remarks arguments else argument ∷ arguments)
unfolding after_remarks
after_by argument arguments true e =
    ap (λ b. drop (cond b (1 + prefix_len is_remark arguments) 0) (argument ∷ arguments)) e
    ∙ ap (λ k. drop k (argument ∷ arguments)) (one_suc (prefix_len is_remark arguments))
after_by argument arguments false e =
    ap (λ b. drop (cond b (1 + prefix_len is_remark arguments) 0) (argument ∷ arguments)) e

-- what is left after the remarks of a list: the list itself if its first argument is none, or else what is left of the
-- rest
after_one : (argument : Bor (List ℕ)) (arguments : Arguments)
    → after_remarks (argument ∷ arguments) ≡ (if is_some (remark argument.now) then after_remarks arguments
    else argument ∷ arguments)
after_one argument arguments = after_by argument arguments (is_remark argument) refl

-- ---- so far

-- the invariant: the lines `text` were sent, and with the remarks from the index `at` on they are all remarks from
-- `from` on
pub record SoFar (arguments : Arguments) (from at : ℕ) (w w' : OutputState) (text : List ℕ) : Type 0 where
  pub took : Took w w' text
  pub rest : text ++ remarks (drop at arguments) ≡ remarks (drop from arguments)

pub start : (arguments : Arguments) (from : ℕ) (w : OutputState) → SoFar arguments from from w w []
start arguments from w = record { took = took_none w; rest = refl }

-- the argument at `at` is a remark, whose line is `text`
module _ (arguments : Arguments) (at : ℕ) (d : Bor (List ℕ)) (text : List ℕ) (lt : at < length arguments)
    (is : remark (get_or arguments at d).now ≡ Some text) where
  -- the remarks from `at` on begin with its line
  said_here : remarks (drop at arguments) ≡ text ++ remarks (drop (at + 1) arguments)
  said_here =
      ap remarks (drop_more arguments at d lt) ∙ remarks_one (get_or arguments at d) (drop (at + 1) arguments)
      ∙ ap (λ o. before_others o (remarks (drop (at + 1) arguments))) is

  -- once its line was sent, the invariant holds for the next index
  pub more : (from : ℕ) (w w' w'' : OutputState) (before : List ℕ) → SoFar arguments from at w w' before
      → Took w' w'' text → SoFar arguments from (at + 1) w w'' (before ++ text)
  more from w w' w'' before s h = record {
    took = took_more w w' w'' before text s.took h;
    rest = append_assoc before text (remarks (drop (at + 1) arguments)) ∙ ap (λ v. before ++ v) (sym said_here)
        ∙ s.rest;
  }

  -- sending its line failed: of all remarks a beginning was sent
  pub broken : {E : Type 0} (from : ℕ) (w w' w'' : OutputState) (before : List ℕ) (r : Result (Unit {0}) E)
      → SoFar arguments from at w w' before → CutShort w' w'' text → IsErr r
      → Puts w w'' r (remarks (drop from arguments))
  broken from w w' w'' before r s h failed =
      puts_exit w w'' r (remarks (drop from arguments))
      (subst (CutShort w w'') (ap (λ v. before ++ v) (sym said_here) ∙ s.rest)
      (breaks_more w w' w'' before (text ++ remarks (drop (at + 1) arguments)) s.took
      (breaks_longer w' w'' text (remarks (drop (at + 1) arguments)) h)))
      failed

-- no remark is at `at`: all were sent, if another argument is there (at_other) or none (at_end)
no_more : (arguments : Arguments) (from at : ℕ) (w w' : OutputState) (before : List ℕ)
    → SoFar arguments from at w w' before → remarks (drop at arguments) ≡ [] → Took w w' (remarks (drop from arguments))
no_more arguments from at w w' before s none =
    subst (Took w w') (sym (append-nil before) ∙ ap (λ v. before ++ v) (sym none) ∙ s.rest) s.took

pub at_other : (arguments : Arguments) (from at : ℕ) (d : Bor (List ℕ)) (w w' : OutputState) (before : List ℕ)
    → at < length arguments → remark (get_or arguments at d).now ≡ None
    → SoFar arguments from at w w' before → Took w w' (remarks (drop from arguments))
at_other arguments from at d w w' before lt is s =
    no_more arguments from at w w' before s
    (ap remarks (drop_more arguments at d lt) ∙ remarks_one (get_or arguments at d) (drop (at + 1) arguments)
    ∙ ap (λ o. before_others o (remarks (drop (at + 1) arguments))) is)

pub at_end : (arguments : Arguments) (from at : ℕ) (w w' : OutputState) (before : List ℕ) → length arguments ≤ at
    → SoFar arguments from at w w' before → Took w w' (remarks (drop from arguments))
at_end arguments from at w w' before past s =
    no_more arguments from at w w' before s (at_drop_all remarks arguments at past ∙ remarks_none)

-- ---- what is left after remarks

-- whether an argument is a remark, as code asks it
pub is_said : (o : Option (Bor (List ℕ))) (r : Option (List ℕ)) (b : Bool) → option_map (λ t. t.now) o ≡ r
    → is_some o ≡ b → is_some r ≡ b
is_said None r b e h = sym (ap is_some e) ∙ h
is_said (Some t) r b e h = sym (ap is_some e) ∙ h

-- what is left from `at` on is what is left from the next index on, if a remark is at `at`; otherwise the arguments
-- from `at` on
pub after_more : (arguments : Arguments) (at : ℕ) (d : Bor (List ℕ)) → at < length arguments
    → is_some (remark (get_or arguments at d).now) ≡ true
    → after_remarks (drop at arguments) ≡ after_remarks (drop (at + 1) arguments)
after_more arguments at d lt is =
    ap after_remarks (drop_more arguments at d lt) ∙ after_one (get_or arguments at d) (drop (at + 1) arguments)
    ∙ ap (λ b. if b then after_remarks (drop (at + 1) arguments) else get_or arguments at d ∷ drop (at + 1) arguments)
    is

pub after_other : (arguments : Arguments) (at : ℕ) (d : Bor (List ℕ)) → at < length arguments
    → is_some (remark (get_or arguments at d).now) ≡ false → after_remarks (drop at arguments) ≡ drop at arguments
after_other arguments at d lt is =
    ap after_remarks (drop_more arguments at d lt) ∙ after_one (get_or arguments at d) (drop (at + 1) arguments)
    ∙ ap (λ b. if b then after_remarks (drop (at + 1) arguments) else get_or arguments at d ∷ drop (at + 1) arguments)
    is ∙ sym (drop_more arguments at d lt)

pub after_end : (arguments : Arguments) (at : ℕ) → length arguments ≤ at → after_remarks (drop at arguments)
    ≡ drop at arguments
after_end arguments at past =
    at_drop_all after_remarks arguments at past ∙ after_none ∙ sym (at_drop_all (λ v. v) arguments at past)

-- ---- a turn

-- the stub's state after a turn plays, with the arguments that are left, whether the turn was `end` (`b`) or not
turned : (b : Bool) (a t left : Arguments) (x y : List ℕ)
    → left ≡ (if b then record (says (playing a) x) { ends = true } else says (playing t) y).state.arguments
    → playing left ≡ (if b then record (says (playing a) x) { ends = true } else says (playing t) y).state
turned true a t left x y is = ap playing is
turned false a t left x y is = ap playing is

-- the stub's state after its turn: it plays a side, and has the arguments that are left
pub turn_state : (arguments left : Arguments) → left ≡ (turn arguments).state.arguments
    → playing left ≡ (turn arguments).state
turn_state [] left is = ap playing is
turn_state (argument ∷ arguments) left is = turned (bytes_eq argument.now (codes "end")) _ _ left _ _ is
