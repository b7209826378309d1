mod AddressLemmas
mod FieldLemmas
