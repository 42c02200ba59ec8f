-- The tables speak of what the public entries give: whatever their contracts let stand afterwards is what a case comes to.
use mathlib.Core.Path.{◌≡◌, sym}
use mathlib.Core.List.{List}
use Prim.Native.Nat.{ℕ}
use Rattle.calculate.specs.Ready.{Gave}
use Rattle.calculate.specs.Whole.{whole}
use Rattle.cases.specs.Case.{comes}
use Rattle.cases.specs.Case.Case.{calculates, replaces}
use Rattle.cases.specs.Case.Comes.{calculated, replacing}
use Rattle.change.specs.Ready.{Gave as GaveBoth}
use Rattle.change.specs.Replace.{replaced}

pub calculation-given : (l c : List ℕ) {g c' : List ℕ} → Gave (whole l c) g c' → comes (calculates l c) ≡ calculated g c'
unfolding comes
calculation-given l c z = λ t. calculated (sym z.numbers t) (sym z.card t)

pub replacement-given :
    (l c : List ℕ) (place : ℕ) (row : List ℕ) {g : List ℕ} {n : ℕ} {l' c' : List ℕ} →
    GaveBoth (replaced l c place row) g n l' c' →
    comes (replaces l c place row) ≡ replacing g n l' c'
unfolding comes
replacement-given l c place row z = λ t. replacing (sym z.numbers t) (sym z.count t) (sym z.list t) (sym z.card t)
