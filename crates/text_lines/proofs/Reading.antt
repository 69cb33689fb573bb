-- For the loops of `read_line` and `read_line_until`, which read pieces until they hold a whole line. After each read
-- (SoFar) the bytes held now give the same lines as those held at the call with all that was read since, whatever comes
-- next. A piece more keeps this (piece_on), also after a wait (found); from it the contract follows at the input's end
-- (at_the_end) and at a failed read (fault_until). Last, the clauses of the law `lines_are_pieces` (law_..).
use Rattle.std.proofs.Common.{◌≡◌, ℕ, ◌+◌, ◌-◌, ◌<◌, ◌≤◌, inl, inr, Bool, true, false, List, [], ◌∷◌, ◌++◌, length, take, Option, Some, None, Result, Ok, Err, IsErr, refl, sym, ap, ◌∙◌, arith, append_assoc, append-nil, length-append, nat_eq, ◌==◌, not, subst, MatchBool}
use Rattle.std.proofs.{Math.Seq.take-append_seam, lemmas.List.nil_from_length}
use Rattle.text_lines.proofs.LineParts.{line_ended, ten_step, byte_step, none_from, last_left}
use Rattle.text_lines.proofs.shared.Lines.{nothing_left}
use Rattle.std.specs.Io.KnownBytes.{Consumes}
use Rattle.byte_devices.specs.Devices.{InputState, GavePiece, FailedToRead, WaitStep, saturating_increment}
use Rattle.byte_devices.specs.declared.traits.ReadFault.{ReadFault}
use Rattle.byte_devices.proofs.shared.Devices.{consumes_more, consumes_kept}
use Rattle.text_lines.specs.Lines.{LineSeen, Held, nothing_held, lines_from, lines_held, line_of}
use Rattle.text_lines.specs.{laws.Unended.HasNoEnd, ties.Kept.HeldLine, declared.lines.TheConstants.PIECE_LEN}
use Rattle.text_lines.specs.Next.{before_piece, Waits, work, NextLine, NextLineUntil, line_if}

-- during a call for the next line: since it began `given` was read, which took the input from `r` to `r'` and the bytes
-- held from `held` to `held'`. By `lines` no byte is lost; by `work` no more can still come than at the call. `n` is
-- the limit of a line's length
pub record SoFar (n : ℕ) (r r' : InputState) (held held' : Held) (given : List ℕ) : Type 0 where
  pub bytes : Consumes r.known_bytes r'.known_bytes given
  pub waits : Waits n r r' held given
  pub lines : (at_end : Bool) (rest : List ℕ)
      → lines_held n at_end held (given ++ rest) ≡ lines_held n at_end held' rest
  pub failures : r'.failure_count ≡ r.failure_count
  pub ends : r'.end_count ≡ r.end_count
  pub silences : r'.silence_count ≡ r.silence_count
  pub work : work r' held' ≤ work r held

-- of a choice by a test that is false, the second holds
at_false : (b : Bool) (P Q : Type 0) → b ≡ false → Q → MatchBool b P Q
at_false true P Q e p = cc
at_false false P Q e p = p

-- if no whole line is found in the bytes held (`HeldLine .. None`), there is none in all that came since the call
whole_so_far : (n : ℕ) (r r' : InputState) (h h' h'' : Held) (given : List ℕ) → SoFar n r r' h h' given
    → HeldLine n h' h'' None → lines_held n false h given ≡ []
whole_so_far n r r' h h' h'' given s f = ap (lines_held n false h) (sym (append-nil given)) ∙ s.lines false [] ∙ f.0

-- if no whole line was held, and then a piece was read, the lines since the call are those of the line that has begun
-- (`h''.part`), the piece and what follows
lines_on : (n : ℕ) (r r' : InputState) (h h' h'' : Held) (given piece : List ℕ) → SoFar n r r' h h' given
    → HeldLine n h' h'' None → (at_end : Bool) (rest : List ℕ)
    → lines_held n at_end h ((given ++ piece) ++ rest) ≡ lines_from n at_end h''.part (piece ++ rest)
lines_on n r r' h h' h'' given piece s f at_end rest =
    ap (lines_held n at_end h) (append_assoc given piece rest) ∙ s.lines at_end (piece ++ rest)
    ∙ f.2 at_end (piece ++ rest)
    ∙ ap (λ v. lines_from n at_end h''.part (v ++ (piece ++ rest))) f.1

-- without the last piece, the bytes given are those before it
before_last : (given piece : List ℕ) (last : ℕ) → last ≡ length piece → before_piece last (given ++ piece) ≡ given
before_last given piece last e =
    let len : length (given ++ piece) ≡ length given + length piece = length-append given piece in
    let at : length (given ++ piece) - last ≡ length given = omega arith in
    ap (λ v. take v (given ++ piece)) at ∙ take-append_seam given piece

-- a piece was read only as no whole line was held before it
waits_on : (n : ℕ) (r r' r'' : InputState) (h h' h'' : Held) (given piece : List ℕ) → SoFar n r r' h h' given
    → HeldLine n h' h'' None → GavePiece r' r'' piece → Waits n r r'' h (given ++ piece)
waits_on n r r' r'' h h' h'' given piece s f p =
    let len : length (given ++ piece) ≡ length given + length piece = length-append given piece in
    let last = p.last in
    inr (
      omega arith,
      ap (lines_held n false h) (before_last given piece r''.last_len p.last)
          ∙ whole_so_far n r r' h h' h'' given s f,
    )

-- one more piece, read as no whole line was held, keeps SoFar: then the piece is what is to be looked at
pub piece_on : (n : ℕ) (r r' r'' : InputState) (h h' h'' : Held) (given piece : List ℕ) → SoFar n r r' h h' given
    → HeldLine n h' h'' None → GavePiece r' r'' piece → 0 < length piece → length piece ≤ PIECE_LEN
    → SoFar n r r'' h (record { part = h''.part; coming = piece }) (given ++ piece)
piece_on n r r' r'' h h' h'' given piece s f p some few = record {
  bytes = consumes_more r.known_bytes r'.known_bytes r''.known_bytes given piece s.bytes p.bytes;
  waits = waits_on n r r' r'' h h' h'' given piece s f p;
  lines = lines_on n r r' h h' h'' given piece s f;
  failures = p.failures ∙ s.failures;
  ends = p.ends ∙ (let e : nat_eq (length piece) 0 ≡ false = grind arith in rw e refl) ∙ s.ends;
  silences = p.silences ∙ s.silences;
  work = (let a = p.falls in let b = s.work in omega arith);
}

-- an empty piece counts as a report of the input's end
reported_end : (r r' : InputState) (piece : List ℕ) → GavePiece r r' piece → piece ≡ []
    → r'.end_count ≡ saturating_increment r.end_count
reported_end r r' piece p e = p.ends ∙ rw e refl

-- at the input's end the lines since the call are those of the line that has begun
lines_end : (n : ℕ) (r r' : InputState) (h h' h'' : Held) (given piece : List ℕ) → SoFar n r r' h h' given
    → HeldLine n h' h'' None → piece ≡ [] → (at_end : Bool)
    → lines_held n at_end h (given ++ piece) ≡ lines_from n at_end h''.part []
lines_end n r r' h h' h'' given piece s f e at_end =
    ap (lines_held n at_end h) (sym (append-nil (given ++ piece))) ∙ lines_on n r r' h h' h'' given piece s f at_end []
    ∙ ap (λ v. lines_from n at_end h''.part (v ++ [])) e

both_empty : (a b : List ℕ) → a ≡ [] → b ≡ [] → record { part = a; coming = b } ≡ nothing_held
both_empty a b e f = ap (λ (v : List ℕ). let h : Held = record { part = v; coming = b } in h) e
    ∙ ap (λ (v : List ℕ). let h : Held = record { part = []; coming = v } in h) f

-- at the input's end with no line begun: there is no line
end_none : (E : Type 0) (n : ℕ) (r r' r'' : InputState) (h h' h'' h3 : Held) (given piece : List ℕ)
    → SoFar n r r' h h' given → HeldLine n h' h'' None → GavePiece r' r'' piece → piece ≡ [] → h''.part ≡ []
    → h3 ≡ nothing_held
    → NextLine {E = E} n r r'' h h3 (Ok None)
end_none E n r r' r'' h h' h'' h3 given piece s f p e empty left = (
  given ++ piece,
  consumes_more r.known_bytes r'.known_bytes r''.known_bytes given piece s.bytes p.bytes,
  waits_on n r r' r'' h h' h'' given piece s f p,
  record {
    lines = λ at_end. lines_end n r r' h h' h'' given piece s f e at_end ∙ ap (λ v. lines_from n at_end v []) empty
        ∙ nothing_left n at_end;
    rest = left;
    at_end = p.at_end (ap length e);
    failures = p.failures ∙ s.failures;
    ends = reported_end r' r'' piece p e ∙ ap saturating_increment s.ends;
    silences = p.silences ∙ s.silences;
  },
)

-- at the input's end with a line begun: that is the last one
end_last : (E : Type 0) (n : ℕ) (r r' r'' : InputState) (h h' h'' h3 : Held) (given piece : List ℕ)
    (line : LineSeen) → SoFar n r r' h h' given → HeldLine n h' h'' None → GavePiece r' r'' piece → piece ≡ []
    → 0 < length h''.part
    → line ≡ line_of n false h''.part → h3 ≡ nothing_held → NextLine {E = E} n r r'' h h3 (Ok (Some line))
end_last E n r r' r'' h h' h'' h3 given piece line s f p e some is left =
    let ended : line.ended ≡ false = ap (λ (l : LineSeen). l.ended) is ∙ line_ended n false h''.part in (
      given ++ piece,
      consumes_more r.known_bytes r'.known_bytes r''.known_bytes given piece s.bytes p.bytes,
      waits_on n r r' r'' h h' h'' given piece s f p,
      at_false line.ended _ _ ended (record {
        whole = lines_end n r r' h h' h'' given piece s f e false ∙ none_from n h''.part;
        lines = lines_end n r r' h h' h'' given piece s f e true ∙ last_left n h''.part some
            ∙ ap (λ v. v ∷ []) (sym is);
        rest = left;
        at_end = p.at_end (ap length e);
        failures = p.failures ∙ s.failures;
        ends = reported_end r' r'' piece p e ∙ ap saturating_increment s.ends;
        silences = p.silences ∙ s.silences;
      }),
    )

-- at the input's end: what is left of a line, if anything, is the last one
pub at_the_end : (E : Type 0) (n : ℕ) (r r' r'' : InputState) (h h' h'' h3 : Held) (given piece : List ℕ)
    (line : LineSeen) (some : Bool) → SoFar n r r' h h' given → HeldLine n h' h'' None → GavePiece r' r'' piece
    → piece ≡ [] → some ≡ not (length h''.part == 0) → (some ≡ true → line ≡ line_of n false h''.part)
    → h3 ≡ record { part = []; coming = piece } → NextLine {E = E} n r r'' h h3 (Ok (line_if some line))
at_the_end E n r r' r'' h h' h'' h3 given piece line true s f p e some is left =
    end_last E n r r' r'' h h' h'' h3 given piece line s f p e (grind arith) (is refl)
    (left ∙ both_empty [] piece refl e)
at_the_end E n r r' r'' h h' h'' h3 given piece line false s f p e some is left =
    end_none E n r r' r'' h h' h'' h3 given piece s f p e (nil_from_length h''.part (grind arith))
    (left ∙ both_empty [] piece refl e)

-- after a wait that found something, the input is as before
pub found : (n : ℕ) (r r' r'' : InputState) (h h' : Held) (given : List ℕ) (some : Bool) → some ≡ true
    → WaitStep r' r'' some → SoFar n r r' h h' given → SoFar n r r'' h h' given
found n r r' r'' h h' given true e w s = subst (λ v. SoFar n r v h h' given) (sym w) s
found n r r' r'' h h' given false e w s = cc

-- a step of the input that keeps the length of the last piece keeps `Waits`
kept_waits : (n : ℕ) (r r' r'' : InputState) (h : Held) (given : List ℕ) → r''.last_len ≡ r'.last_len
    → Waits n r r' h given → Waits n r r'' h given
kept_waits n r r' r'' h given e (inl (none, last)) = inl (none, e ∙ last)
kept_waits n r r' r'' h given e (inr (few, none)) = inr (
  omega (arith, e, few),
  ap (λ v. lines_held n false h (before_piece v given)) e ∙ none,
)

-- at the exit of a `?`: a read failed, and `read_line_until` returns the fault. No whole line had come, and the bytes
-- held still give the lines of all that was read
pub fault_until : (n : ℕ) (r r' r'' : InputState) (h h' h'' : Held) (given coming : List ℕ)
    (result : Result (Option Bool) ReadFault) (line : LineSeen) → SoFar n r r' h h' given → HeldLine n h' h'' None
    → coming ≡ [] → FailedToRead r' r'' → IsErr result
    → NextLineUntil n r r'' h (record { part = h''.part; coming = coming }) result line
fault_until n r r' r'' h h' h'' given coming (Ok some) line s f e p is = cc
fault_until n r r' r'' h h' h'' given coming (Err fault) line s f e p is = (
  given,
  subst (Consumes r.known_bytes r''.known_bytes) (append-nil given)
      (consumes_more r.known_bytes r'.known_bytes r''.known_bytes given [] s.bytes
      (consumes_kept r'.known_bytes r''.known_bytes p.bytes)),
  kept_waits n r r' r'' h given p.last s.waits,
  record {
    whole = whole_so_far n r r' h h' h'' given s f;
    lines = λ at_end rest. s.lines at_end rest ∙ f.2 at_end rest
        ∙ ap (λ v. lines_from n at_end h''.part (v ++ rest)) (f.1 ∙ sym e);
    failures = p.failures ∙ ap saturating_increment s.failures;
    ends = p.ends ∙ s.ends;
    silences = p.silences ∙ s.silences;
  },
)

-- bytes without a `\n` are added to the line that has begun
piece_on_part : (n : ℕ) (at_end : Bool) (part piece rest : List ℕ) → HasNoEnd piece
    → lines_from n at_end part (piece ++ rest) ≡ lines_from n at_end (part ++ piece) rest
piece_on_part n at_end part [] rest h = ap (λ v. lines_from n at_end v rest) (sym (append-nil part))
piece_on_part n at_end part (c ∷ cs) rest h =
    byte_step n at_end part c (cs ++ rest) h.0 ∙ piece_on_part n at_end (part ++ c ∷ []) cs rest h.1
    ∙ ap (λ v. lines_from n at_end v rest) (append_assoc part (c ∷ []) cs)

-- for the law `lines_are_pieces`: bytes without a `\n`, and a `\n` after them, are a line
pub law_ended : (n : ℕ) (at_end : Bool) (piece rest : List ℕ) → HasNoEnd piece
    → lines_from n at_end [] (piece ++ 10 ∷ rest) ≡ line_of n true piece ∷ lines_from n at_end [] rest
law_ended n at_end piece rest h = piece_on_part n at_end [] piece (10 ∷ rest) h ∙ ten_step n at_end piece 10 rest refl

-- at the stream's end bytes without a `\n` are a line
pub law_last : (n : ℕ) (piece : List ℕ) → HasNoEnd piece → 0 < length piece
    → lines_from n true [] piece ≡ line_of n false piece ∷ []
law_last n piece h some = ap (lines_from n true []) (sym (append-nil piece)) ∙ piece_on_part n true [] piece [] h
    ∙ last_left n piece some

-- before the stream's end bytes without a `\n` are no line
pub law_not_at_end : (n : ℕ) (piece : List ℕ) → HasNoEnd piece → lines_from n false [] piece ≡ []
law_not_at_end n piece h = ap (lines_from n false []) (sym (append-nil piece)) ∙ piece_on_part n false [] piece [] h
    ∙ none_from n piece
