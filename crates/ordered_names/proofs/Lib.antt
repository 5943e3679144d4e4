mod Search
mod Drafts
