-- The theorems on what is printed for a text of lines of inputs, to be read first, and the laws that they rest on.
pub mod TextTheorem
pub mod ExampleLaws
pub mod LinesLaws
pub mod SheetLaws
