pub mod Generations
