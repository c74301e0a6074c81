use Rattle.std.proofs.Common.{◌≡◌, ◌+◌, ◌-◌, ◌≤◌, length, take, drop, sym, ap, ◌∙◌, arith}
use Rattle.std.proofs.lemmas.List.{drop-take}
use Rattle.std.proofs.lemmas.Slice.{between-put_mid, take-put_mid_below, drop-put_mid}
use borrow.Rule.Slice.PartMut.{put_mid}
use Rattle.sorted_index.specs.Sorting.{sorted, inserted}
use Rattle.sorted_store.specs.Columns.{cell_order}
use Rattle.sorted_store.proofs.Stretches.{part_long, part_front}
use Rattle.sorted_store.proofs.columns.calls.insert_at.Goals as goal

pub returns : goal.returns
returns c =
    let xs = c.args.entries.now in
    let ys = c.insert.new.entries in
    let a = c.args.from in
    let n = c.args.n in
    let k = a + n + 1 - a in
    let is : a + n + 1 - a ≡ n + 1 = omega arith in
    let long = part_long xs a n k is c.requires in
    let front = part_front xs a n k is c.requires in
    let same : length ys ≡ k = omega arith in
    let low : a ≤ length xs = omega (arith, c.requires) in
    record {
      here = λ s.
          ap (λ m. take m (drop a (put_mid a k xs ys))) (sym is)
          ∙ between-put_mid a k xs ys (a + n + 1) low same
          ∙ c.insert.ensures.after (omega arith) (ap (sorted cell_order) front ∙ s)
          ∙ ap (inserted cell_order c.args.entry) front;
      below = λ o m le. sym (drop-take o m (put_mid a k xs ys)) ∙ ap (drop o) (take-put_mid_below a k xs ys (o + m) le low) ∙ drop-take o m xs;
      above = λ o m lt. ap (take m) (drop-put_mid a k xs ys o (omega arith) low same);
    }
