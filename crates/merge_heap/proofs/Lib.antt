pub mod CellCounts
pub mod HeapMerge
pub mod HeapMergePairs
pub mod HeapPop
pub mod HeapMap
pub mod LinkLists
pub mod Rep
pub mod Turns
