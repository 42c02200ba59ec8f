pub mod Demand1
pub mod NamesLaws
pub mod ReadAgain
pub mod RoomLaws
pub mod SheetLaws
pub mod WholeAnswers
pub mod WholeWay
