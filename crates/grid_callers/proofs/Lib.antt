mod CountLemmas
mod WriteLemmas
