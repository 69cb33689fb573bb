-- The move is pushed with its position, and then gets its entry of the index (pushed_last, with_entry of Kept). The
-- board made it at the end of the line, so it follows there (added of Kept). The game was not over, so no verdict came
-- before the new last move (unended_more of Judged), nor full, so there is room (room of Kept). What the game shows
-- then has this move more, and nothing declared (shown_more of Kept).
use Rattle.std.proofs.Common.{◌≡◌, ◌<◌, ◌-◌, ◌++◌, ◌∷◌, [], false, is_err, length, List, refl, sym, ap, subst, ◌∙◌, arith}
use Rattle.chess_base.specs.{declared.man.Move.Move, declared.setup.Saved.Saved}
use Rattle.chess_game.specs.{Game.is_over, Game.is_full, ties.Buckets.IsIndexed, ties.PlayedMoves.moves_of, ties.PlayedMoves.IsKept, declared.game.PlayedMove.PlayedMove, declared.repetition.Hashed.Hashed}
use Rattle.chess_game.proofs.Kept.{added, made_at_end, hashes_more, pushed_last, split_last, with_entry, shown_more, room}
use Rattle.chess_game.proofs.{Judged.unended_more, Judged.no_verdict, Playable.may_play}
use Rattle.chess_game.proofs.game.Game.play_legal.Goals as goal

pub make-saved-requires : goal.make-saved-requires
make-saved-requires g c =
    let legal = (may_play c.args.self.now c.args.m c.requires).legal in
    rw c.self.invariant.0.at_end (rw (← c.self.view_is) at legal)

-- the played move as it was pushed, before its entry was known
unindexed : Move → Saved → Hashed → PlayedMove
unindexed m saved reached =
    record { made = m; captured = saved.captured; reached = reached; entry = record { earlier = 0; count = 1 } }

pub push-entry-requires-clause-made : goal.push-entry-requires-clause-made
unfolding unindexed
push-entry-requires-clause-made g c =
    let xs = c.self.inside.played_moves.items in
    let done : is_err c.push.result ≡ false = sym c.is_err.ensures.value ∙ c.if-is_err.false in
    let all = c.len-last.ensures ∙ sym c.as_slice.ensures.len ∙ ap length c.as_slice.ensures.value in
    let p = pushed_last c.push.result xs c.push.new.self.items (unindexed c.args.m c.make-saved.result c.on.result)
    c.len-last.result done c.push.ensures.items all in
    let s = split_last xs c.push.new.self.items c.as_slice.result.now
    (unindexed c.args.m c.make-saved.result c.on.result) (c.len-last.result - 1) c.split_at.result.0.now
    c.split_at.result.1.now c.index-latest-0.result p c.as_slice.ensures.value c.split_at.ensures.front
    c.split_at.ensures.back in (
      c.args.m,
      c.make-saved.result,
      made_at_end c.self.inside.start.position xs c.split_at.result.0.now c.args.m c.make-saved.result _ _ _ s.earlier
          c.self.invariant.0.at_end c.make-saved.ensures.made
          (ap (λ (y : PlayedMove). y.reached.position) s.latest ∙ c.on.ensures.position),
    )

pub invariant_of-self : goal.invariant_of-self
unfolding unindexed
invariant_of-self g c =
    let xs = c.self.inside.played_moves.items in
    let pushed = unindexed c.args.m c.make-saved.result c.on.result in
    let x : PlayedMove = record pushed { entry = c.push-entry.result } in
    let may = may_play c.args.self.now c.args.m c.requires in
    let few : length xs < c.self.inside.limit = room c.self.inside.limit c.self.inside.start.position xs
    c.self.inside.declared c.args.self.now c.self.view_is (is_full c.args.self.now) refl may.room in
    let done : is_err c.push.result ≡ false = sym c.is_err.ensures.value ∙ c.if-is_err.false in
    let len = c.len-last.ensures ∙ sym c.as_slice.ensures.len ∙ ap length c.as_slice.ensures.value in
    let p = pushed_last c.push.result xs c.push.new.self.items pushed c.len-last.result done c.push.ensures.items len in
    let s = split_last xs c.push.new.self.items c.as_slice.result.now pushed (c.len-last.result - 1)
    c.split_at.result.0.now c.split_at.result.1.now c.index-latest-0.result p c.as_slice.ensures.value
    c.split_at.ensures.front c.split_at.ensures.back in
    let all = with_entry xs c.push.new.self.items pushed c.index_mut.result.now (c.len-last.result - 1)
    c.push-entry.result p c.index_mut.ensures.value in
    let more = added c.self.inside.start.position xs x c.make-saved.result _ _ c.self.invariant.0.follows
    c.self.invariant.0.at_end refl c.make-saved.ensures.made c.on.ensures.position c.on.ensures.known in
    let hashes = hashes_more g.B.Board.word_of c.self.inside.start xs x c.self.invariant.0.hashes c.on.ensures.hash in
    let none =
    no_verdict
    (record { start = c.self.inside.start.position; moves = moves_of xs; declared = c.self.inside.declared })
    (is_over c.args.self.now.state) (rw (← c.self.view_is) refl) may.on in
    let index : IsIndexed c.push-entry.new.self.heads.items c.self.inside.start (xs ++ x ∷ []) =
    subst (λ (ys : List PlayedMove). IsIndexed c.push-entry.new.self.heads.items c.self.inside.start (ys ++ x ∷ []))
    s.earlier (c.push-entry.ensures x (sym (ap (λ (y : PlayedMove). y.reached) s.latest)) refl) in
    let kept : IsKept g.B.Board.word_of c.self.inside.start (xs ++ x ∷ []) (g.B.Board.position c.make-saved.new.self) =
    record { known = c.self.invariant.0.known; follows = more.follows; hashes = hashes; at_end = more.at_end } in (
      rw all kept,
      rw all (unended_more c.self.inside.start.position xs x c.self.invariant.1 none),
      record { few = omega arith; made = omega arith; bound = omega arith },
      rw all index,
    )

pub returns : goal.returns
unfolding unindexed
returns g c =
    let xs = c.self.inside.played_moves.items in
    let pushed = unindexed c.args.m c.make-saved.result c.on.result in
    let done : is_err c.push.result ≡ false = sym c.is_err.ensures.value ∙ c.if-is_err.false in
    let len = c.len-last.ensures ∙ sym c.as_slice.ensures.len ∙ ap length c.as_slice.ensures.value in
    let p = pushed_last c.push.result xs c.push.new.self.items pushed c.len-last.result done c.push.ensures.items len in
    shown_more c.self.inside.limit c.self.inside.start.position xs _ (record pushed { entry = c.push-entry.result })
    c.self.inside.declared c.args.self.now c.self.view_is (with_entry xs c.push.new.self.items pushed
    c.index_mut.result.now (c.len-last.result - 1) c.push-entry.result p c.index_mut.ensures.value)
