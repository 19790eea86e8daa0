-- Tests that are computed: the bench sequences and further rows, each with the definitions that it stands for.
pub mod Squares
pub mod Replies
pub mod Values
pub mod Sequences
pub mod Computing
pub mod BenchRows
pub mod LineRows
pub mod OtherRows
pub mod StateRows
pub mod SlowingRows
pub mod FaultRows
pub mod RangeRows
pub mod DigitalRows
pub mod BenchRowsHold
pub mod TimedRowsHold
