-- `read_input` meets its contract: what a read puts behind the bytes that stand in the buffer is what the input lost by it.
use Rattle.std.proofs.Common.{◌≡◌, ℕ, ◌+◌, ◌-◌, ◌≤◌, List, ◌++◌, rules, arith, length, take, slice_range, sym, ap, ◌∙◌, subst, le_refl, drop_at, length-take-le}
use Rattle.std.proofs.lemmas.Slice.{take-put_mid_below}
use Rattle.std.proofs.KnownBytes.{Consumes-trans}
use Rattle.std.specs.Io.KnownBytes.{Consumes}
use borrow.Rule.Slice.PartMut.{put_mid, post_of}
use lib.Seq.{take-add, take-append-le}
use Rattle.console.proofs.read_input.Goals as goal

module _ (a k n : ℕ) (xs ys : List ℕ) (within : a ≤ length xs) (fits : n ≤ length ys) where
  -- the front stays, and behind it stand the first of those that were put there
  put-behind : slice_range (put_mid a k xs ys) a (a + n) ≡ take n ys
  put-behind =
      let same : (a + n) - a ≡ n = omega arith in
      let after = post_of a k xs in
      ap (take ((a + n) - a)) (drop_at (take a xs) (ys ++ after) a (length-take-le a xs within)) ∙ ap (λ m. take m (ys ++ after)) same
      ∙ take-append-le n ys after fits

  front-and-behind : take a xs ++ take n ys ≡ take (a + n) (put_mid a k xs ys)
  front-and-behind =
      let put = put_mid a k xs ys in
      let same : (a + n) - a ≡ n = omega arith in
      ap (λ l. l ++ take n ys) (sym (take-put_mid_below _ _ _ _ _ (le_refl _) within))
      ∙ ap (λ l. take a put ++ l) (sym put-behind)
      ∙ sym (take-add a ((a + n) - a) put)
      ∙ ap (λ m. take (a + m) put) same

pub loop-done-preserved : goal.loop-done-preserved
loop-done-preserved g c =
    let so-far = c.loop-done.invariant in
    let joined =
    front-and-behind c.loop-done.done (length c.loop-done.text - c.loop-done.done) c.in_ok-more.more c.loop-done.text c.read.new.buf
    so-far.within c.in_ok-more.ensures.bound.0 in
    record {
      within = search rules;
      as-long = search rules;
      lost = subst (Consumes _ _) joined (Consumes-trans _ _ _ _ _ so-far.lost c.in_ok-more.ensures.bytes.0);
    }
