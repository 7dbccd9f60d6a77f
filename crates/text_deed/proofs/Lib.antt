-- The laws of text_deed, a file each; its own proofs alone cite them.
mod Asking
