pub mod PartNumbers
pub mod StoreWrites
pub mod PieceWrites
