mod CountLemmas
mod FieldLemmas
mod HitLemmas
mod MemoryLemmas
mod WindowLemmas
mod ZipLemmas
