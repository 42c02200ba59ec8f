-- [02 §11] A text of three lines, the request's example among them, and what is printed for it. Definitions only.
use Rattle.std.specs.Prelude.{List, ◌++◌, ℕ}
use Rattle.cursor.specs.Spelt.{spelt}

unfoldable pub example : List ℕ
example =
    spelt "start,blocking,cutoff,through,first_side,second_side,differential,restraint\r\n" ++ spelt "30,200,700,400,150,160,179,398\r\n" ++
    spelt "30,200,700,400,210,220,179,398\r\n" ++ spelt "30,200,700,400,150,10001,0,0"

unfoldable pub printed : List ℕ
printed =
    spelt "number,place,start,bend,slope,blocking,cutoff,verdict\r\n" ++ spelt "0,0,30,100,50,200,700,1\r\n" ++
    spelt "0,0,30,100,50,200,700,3\r\n" ++ spelt "16,6,0,0,0,0,0,0\r\n"
