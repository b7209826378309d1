mod AskLemmas
mod BodyLemmas
mod CallLemmas
mod ShownLemmas
