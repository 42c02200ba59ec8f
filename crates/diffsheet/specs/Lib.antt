-- [02 §11] The text of lines of inputs and what is printed for it. Definitions only.
pub mod Lines
pub mod Sheet
pub mod Prints
pub mod Example
