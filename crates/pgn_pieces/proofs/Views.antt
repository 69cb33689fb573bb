-- The parts of the buffer that is held give the state of cutting (viewed). With `n` bytes more in the piece they give
-- the state in which `n` more bytes were added to it (passed_on); and if the bytes of a piece that is too long are let
-- go, they give a state with the same counts (let_gone). The code's slice from an offset on is the buffer without the
-- bytes before it (slice_is).
use Rattle.std.proofs.Common.{◌≡◌, ◌≤◌, ◌<◌, ℕ, ◌+◌, ◌-◌, Bool, List, ◌++◌, length, take, drop, refl, sym, ap, subst, ◌∙◌, append_assoc, append-nil, length-append, length-drop, arith, ap₂, take-add}
use Rattle.std.proofs.lemmas.List.{drop-drop, length-take-le, take_rest}
use Rattle.pgn_pieces.specs.{Stream.State, declared.pieces.TheConstants.PIECE_LEN, ties.Held.passed, ties.Held.SameCounts, ties.Held.LetGo}

abbrev pub viewed : List ℕ → ℕ → ℕ → List ℕ → ℕ → Bool → State
viewed held at len gone offset ended = record {
  offset = offset;
  part = gone ++ take len (drop at held);
  coming = drop (at + len) held;
  ended = ended;
}

pub passed_on : (held : List ℕ) (at len n : ℕ) (gone : List ℕ) (offset : ℕ) (ended : Bool)
    → viewed held at (len + n) gone offset ended ≡ passed n (viewed held at len gone offset ended)
passed_on held at len n gone offset ended =
    ap (λ xs. record { offset = offset; part = gone ++ xs; coming = drop (at + (len + n)) held; ended = ended })
    (take-add len n (drop at held) ∙ ap (λ xs. take len (drop at held) ++ take n xs) (drop-drop len at held))
    ∙ ap (λ xs. record { offset = offset; part = xs; coming = drop (at + (len + n)) held; ended = ended })
    (sym (append_assoc gone (take len (drop at held)) (take n (drop (at + len) held))))
    ∙ ap (λ xs. record {
      offset = offset;
      part = (gone ++ take len (drop at held)) ++ take n (drop (at + len) held);
      coming = xs;
      ended = ended;
    }) (ap (λ k. drop k held) (omega arith) ∙ sym (drop-drop n (at + len) held))

pub slice_is : (xs ys : List ℕ) (k : ℕ) → xs ≡ ys → take (length xs - k) (drop k xs) ≡ drop k ys
slice_is xs ys k e = take_rest xs k ∙ ap (drop k) e

-- what is held of a piece that is too long was let go
pub let_gone : (held text : List ℕ) (at len : ℕ) (gone gone' : List ℕ) (offset : ℕ) (ended : Bool) → text ≡ held
    → at + len ≤ length held → PIECE_LEN < length gone + len
    → SameCounts (gone ++ take (at + len - at) (drop at text)) gone'
    → LetGo (viewed held at len gone offset ended) (viewed held (at + len) 0 gone' offset ended)
let_gone held text at len gone gone' offset ended same within long counts =
    let n : at + len - at ≡ len = omega arith in
    let part : gone ++ take (at + len - at) (drop at text) ≡ gone ++ take len (drop at held) =
    ap₂ (λ k xs. gone ++ take k (drop at xs)) n same in
    let end : at + len + 0 ≡ at + len = omega arith in
    let l = length-append gone (take len (drop at held)) in
    let m = length-drop at held in
    let k = length-take-le len (drop at held) (omega (arith, m, within)) in record {
      part = (
        subst (λ xs. SameCounts (gone ++ take len (drop at held)) xs) (sym (append-nil gone'))
            (subst (λ xs. SameCounts xs gone') part counts),
        λ few. absurd (omega (arith, few, l, k, long)),
      );
      offset = refl;
      coming = ap (λ n. drop n held) end;
      ended = refl;
    }
