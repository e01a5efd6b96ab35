-- Lemmas of the proofs about `figures`.
mod Sheet
