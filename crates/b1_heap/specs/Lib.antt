pub mod Heap
pub mod Sift
pub mod Depth
pub use Rattle.b1_queue.specs.Queue
