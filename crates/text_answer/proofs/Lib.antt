-- The laws of text_answer, a file each; its own proofs alone cite them.
mod Maturities
mod Told
mod ReasonWords
