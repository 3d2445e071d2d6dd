pub mod TestBases
